-- The version in the parentheses of a body.
use Rattle.std.proofs.Common.{◌≡◌, ℕ, ◌+◌, true, List, refl}
use Rattle.std.specs.List.{position_or_len, prefix_len}
use Rattle.deb_base.specs.Bodies.{is_blank_byte}
use Rattle.deb_base.specs.Trimming.{trimmed}
use Rattle.deb_field.specs.Sources.{has_version, is_open}
use Rattle.deb_explain.specs.Causes.{source_cause, version_fault, within_parentheses}

pub source_found : (body within version : List ℕ) (place blanks : ℕ) → has_version body ≡ true → place ≡ position_or_len is_open body → within ≡ within_parentheses body → blanks ≡ prefix_len is_blank_byte within → version ≡ trimmed within → version_fault (place + 1 + blanks) version ≡ source_cause body
source_found body within version place blanks has at is leading cut = rw (cut, leading, is, at, has) refl
