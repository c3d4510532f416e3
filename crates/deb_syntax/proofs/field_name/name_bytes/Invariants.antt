use Rattle.deb_syntax.proofs.Common.{◌≡◌, ◌+◌, ◌-◌, ◌≤◌, length, take, drop, true, list_all, prefix_len, is_name_byte}
use Rattle.deb_syntax.proofs.field_name.name_bytes.Given as goal

-- the bytes so far are a name's, and what follows decides how many more are
abbrev pub invariant-loop-len : goal.invariant-loop-len
invariant-loop-len l = record {
  within : l.len ≤ length l.text;
  all : list_all is_name_byte (take l.len l.text) ≡ true;
  most : prefix_len is_name_byte l.text ≡ l.len + prefix_len is_name_byte (drop l.len l.text);
}

abbrev pub decreases-loop-len : goal.decreases-loop-len
decreases-loop-len l = length l.text - l.len
