-- What a field needs of its groups: of each its canonical text and two tests, without its parts;
-- and the reading that gives these, that of `Reading` seen in another way.
use Rattle.std.specs.Prelude.{ℕ, Bool, ◌||◌, List, drop, length, Option, Some, None, Ok, Err, if◌then◌else◌}
use Rattle.std.specs.List.{list_all}
use Rattle.deb_relation.specs.declared.fault.Reason.TheVariants.{Trailing}
use Rattle.deb_relation.specs.Meaning.{Group}
use Rattle.deb_relation.specs.Reading.{Reading, Next, and_then, mapped, begins, is_at_end, behind_white, read_group, append}
use Rattle.deb_relation.specs.Sets.{insert_by}
use Rattle.deb_relation.specs.Tests.{has_equal_bound, has_two}
use Rattle.deb_relation.specs.Texts.{group_text}

-- a group's canonical text, whether it has two alternatives or more, and whether no bound of it has
-- an operator other than `=`
pub record Summary : Type 0 where
  pub text : List ℕ
  pub has_two : Bool
  pub only_equals : Bool

abbrev pub summary_with : List ℕ → Bool → Bool → Summary
summary_with text two equals = record { text = text; has_two = two; only_equals = equals }

abbrev pub summary_of : Group → Summary
summary_of group =
    summary_with (group_text group) (has_two group) (list_all has_equal_bound group)

abbrev pub summary_key : Summary → List ℕ
summary_key summary = summary.text

-- a group, and white space after it
unfoldable pub read_summary : List ℕ → Reading Summary
read_summary text = mapped summary_of (read_group text)

-- a piece between commas
abbrev pub summary_behind : Summary → List ℕ → Next (Option Summary)
summary_behind summary text =
    if is_at_end text || begins 44 text then Ok (Some (Some summary, drop 1 text)) else Err
    (Trailing, length text)

unfoldable pub next_summary : List ℕ → Next (Option Summary)
next_summary text =
    if is_at_end (behind_white text) then Ok None
    else if begins 44 (behind_white text) then Ok (Some (None, drop 1 (behind_white text)))
    else and_then (read_summary (behind_white text)) summary_behind

-- the summaries of pieces in the order of the text, repeats kept; and as a set
abbrev pub append_summary : Option Summary → List Summary → List Summary
append_summary None summaries = summaries
append_summary (Some summary) summaries = append summary summaries

abbrev pub put_summary : Option Summary → List Summary → List Summary
put_summary None summaries = summaries
put_summary (Some summary) summaries = insert_by summary_key summary summaries
