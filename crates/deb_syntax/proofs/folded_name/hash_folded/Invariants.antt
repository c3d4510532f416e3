use Rattle.deb_syntax.proofs.Common.{◌≡◌, take, fold, flat_map, folded}
use Rattle.std.specs.Hash as fed
use Rattle.deb_syntax.proofs.folded_name.hash_folded.Given as goal

-- what was fed so far: the length, and the bytes up to here in lower case
abbrev pub invariant-loop-byte : goal.invariant-loop-byte
invariant-loop-byte g l = l.state ≡ fold g.H.Hasher.write l.initial.state (flat_map fed.u8 (folded (take l.byte-index l.name)))
