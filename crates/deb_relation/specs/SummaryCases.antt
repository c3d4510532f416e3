-- Worked cases of summaries: what is kept of a group and of a piece, and the text after it. Debian
-- Policy 7.1.
use Rattle.std.specs.Prelude.{◌≡◌, ℕ, true, false, List, [], ◌∷◌, Some, None, Ok, Err}
use Rattle.std.specs.Prelude.{codes, refl}
use Rattle.deb_version.specs.Grammar.{components_with, meaning_of_components}
use Rattle.deb_version.specs.Parts.{Meaning as Version}
use Rattle.deb_relation.specs.declared.fault.Reason.TheVariants.{NameBad, Trailing}
use Rattle.deb_relation.specs.declared.operator.Op.{Op}
use Rattle.deb_relation.specs.declared.operator.Op.TheVariants.{Equal, LaterEqual}
use Rattle.deb_relation.specs.Meaning.{Alternative}
use Rattle.deb_relation.specs.Reading.{Reading, alternative_with, relation_in}
use Rattle.deb_relation.specs.Rows.{steps}
use Rattle.deb_relation.specs.Summaries.{Summary, summary_with, summary_of, summary_key}
use Rattle.deb_relation.specs.Summaries.{read_summary, summary_behind, next_summary}
use Rattle.deb_relation.specs.Summaries.{append_summary, put_summary}
use Rattle.deb_relation.specs.Texts.{group_text}

-- aa:any with the version 1, an operator before it
abbrev one : Version
one = meaning_of_components (components_with None (codes "1") None)

abbrev bounded : Op → Alternative
bounded operator =
    alternative_with (codes "aa") (Some (codes "any")) (Some (operator, one)) None []

abbrev bare : List ℕ → Alternative
bare name = alternative_with name None None None []

-- the reading with its steps laid open
reading : List ℕ → Reading Summary
unfolding steps relation_in group_text read_summary
reading text = read_summary text

-- A group's text, whether it has two alternatives, and whether `=` is its only operator.
summaries : (summary_of (bare (codes "aa") ∷ [])
    ≡ record { text = codes "aa"; has_two = false; only_equals = true })
    × (summary_of (bounded Equal ∷ bare (codes "bb") ∷ [])
    ≡ record { text = codes "aa:any (= 1) | bb"; has_two = true; only_equals = true })
    × (summary_of (bare (codes "bb") ∷ bounded LaterEqual ∷ [])
    ≡ record { text = codes "bb | aa:any (>= 1)"; has_two = true; only_equals = false })
unfolding group_text
summaries = (refl, refl, refl)

summary_fields : summary_with (codes "aa") true false
    ≡ record { text = codes "aa"; has_two = true; only_equals = false }
summary_fields = refl

key : summary_key (summary_with (codes "aa") true false) ≡ codes "aa"
key = refl

group : (read_summary (codes "bb|aa|bb ,cc")
    ≡ Ok (summary_with (codes "bb | aa | bb") true true, codes ",cc"))
    × (read_summary (codes "aa (>= 1), cc")
    ≡ Ok (summary_with (codes "aa (>= 1)") false false, codes ", cc"))
    × (read_summary (codes "aa:any(>=01)[i386 amd64]<b> <a>")
    ≡ Ok (summary_with (codes "aa:any (>= 1) [amd64 i386] <a> <b>") false false, []))
    × (read_summary (codes "a |bb") ≡ Err (NameBad, 5))
unfolding reading
group = (refl, refl, refl, refl)

-- A piece ends at a comma or with the text.
piece_end : (summary_behind (summary_with (codes "aa") false true) []
    ≡ Ok (Some (Some (summary_with (codes "aa") false true), [])))
    × (summary_behind (summary_with (codes "aa") false true) (codes ", cc")
    ≡ Ok (Some (Some (summary_with (codes "aa") false true), codes " cc")))
    × (summary_behind (summary_with (codes "aa") false true) (codes ") cc") ≡ Err (Trailing, 4))
piece_end = (refl, refl, refl)

pieces : (next_summary (codes " aa,bb")
    ≡ Ok (Some (Some (summary_with (codes "aa") false true), codes "bb")))
    × (next_summary (codes " ,bb") ≡ Ok (Some (None, codes "bb")))
    × (next_summary (codes " \n") ≡ Ok None)
    × (next_summary (codes " aa bb") ≡ Err (Trailing, 2))
unfolding reading next_summary
pieces = (refl, refl, refl, refl)

-- Summaries in the order of the text, repeats kept; and as a set of texts.
abbrev of_text : List ℕ → Summary
of_text text = summary_with text false true

appended : (append_summary (Some (of_text (codes "aa")))
    (of_text (codes "bb") ∷ of_text (codes "aa") ∷ [])
    ≡ of_text (codes "bb") ∷ of_text (codes "aa") ∷ of_text (codes "aa") ∷ [])
    × (append_summary None (of_text (codes "bb") ∷ []) ≡ of_text (codes "bb") ∷ [])
appended = (refl, refl)

put : (put_summary (Some (of_text (codes "bb"))) (of_text (codes "aa") ∷ of_text (codes "cc") ∷ [])
    ≡ of_text (codes "aa") ∷ of_text (codes "bb") ∷ of_text (codes "cc") ∷ [])
    × (put_summary (Some (of_text (codes "aa"))) (of_text (codes "aa") ∷ [])
    ≡ of_text (codes "aa") ∷ [])
    × (put_summary None (of_text (codes "bb") ∷ []) ≡ of_text (codes "bb") ∷ [])
put = (refl, refl, refl)
