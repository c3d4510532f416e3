use Rattle.deb_version.proofs.Common.{◌≡◌, ◌++◌, map, take, Extends}
use Rattle.deb_version.specs.Keys.{byte_key}
use Rattle.deb_version.proofs.key.append_text.Given as goal

abbrev pub invariant-loop-byte : goal.invariant-loop-byte
invariant-loop-byte l = record {
  written : l.out.items ≡ l.initial.out.items ++ map byte_key (take l.byte-index l.text);
  begun : Extends l.initial.out.items l.out.items;
}
