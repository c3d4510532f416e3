-- The paragraphs of a file that a reader of checked paragraphs has given. Debian Policy 5.1.
use Rattle.std.specs.Prelude.{◌≡◌, ℕ, ◌+◌, List, [], ◌∷◌, map, Option, Some, Result, Ok, Err, IsTrue, codes, refl}
use Rattle.std.specs.List.{AllByRecursion}
use Rattle.std.specs.Str.{is_utf8, chars}
use lib.Utf8.{encode}
use Rattle.deb_base.specs.Bodies.{paragraph_limit, file_limit}
use Rattle.deb_base.specs.declared.code.Code.TheVariants.{MissingField}
use Rattle.deb_base.specs.Kinds.{kind_at, kind_of, known_row}
use Rattle.deb_base.specs.declared.doc.Doc.{Doc}
use Rattle.deb_base.specs.declared.doc.Doc.TheVariants.{Packages}
use Rattle.deb_base.specs.declared.refusal.Refusal.{Refusal}
use Rattle.deb_syntax.specs.Answers.{Seen, next_answer}
use Rattle.deb_syntax.specs.Meaning.{Entries}
use Rattle.deb_control.specs.Checking.{CheckedState, FitsChecked, all_pass, is_judged}
use Rattle.deb_control.specs.Documents.{rules_of}
use Rattle.deb_control.specs.Refusals.{Answered, built}

-- These are the answers after the first `n` paragraphs: each is the next paragraph of the file.
abbrev pub AreNext : List ℕ → ℕ → List Seen → Type 0
AreNext text n [] = Unit {0}
AreNext text n (seen ∷ more) =
    (next_answer text n ≡ Ok (Some seen)) × AreNext text (n + 1) more

-- the canonical bodies of what is built, and those of a paragraph that was seen
abbrev pub bodies_built : Result Entries Refusal → Entries
bodies_built (Ok entries) = entries
bodies_built (Err refusal) = []

abbrev pub bodies_seen : Doc → Seen → Entries
bodies_seen doc seen = bodies_built (built (rules_of doc) seen)

-- what was answered of paragraphs that were seen, which pass
abbrev pub answered_seen : Doc → List Seen → List Answered
answered_seen doc given = all_pass (map (bodies_seen doc) given)

-- These were given: they are the first paragraphs of the file, and each of them passes.
pub record HasShown (doc : Doc) (text : List ℕ) (given : List Seen) (state : CheckedState)
    (left : Option (List ℕ)) : Type 0 where
  pub fits : FitsChecked doc text (answered_seen doc given) state left
  pub next : AreNext text 0 given
  pub passing : AllByRecursion (λ seen. IsTrue (is_judged doc seen)) given

-- the second of two paragraphs
abbrev second : Seen
second =
    record { first = 3; fields = record { name = codes "b"; line = 3; body = codes "2" } ∷ [] }

worked-next : AreNext (codes "a:1\n\nb:2\n") 1 (second ∷ [])
unfolding file_limit paragraph_limit is_utf8 chars encode
worked-next = (refl, tt)

worked-bodies : (bodies_built (Ok ((codes "B", codes "2") ∷ [])) ≡ (codes "B", codes "2") ∷ [])
    × (bodies_built (Err (record { code = MissingField; line = 3 })) ≡ [])
    × (bodies_seen Packages second ≡ [])
unfolding paragraph_limit kind_of kind_at known_row
worked-bodies = (refl, refl, refl)

answers_of_seen : answered_seen Packages (second ∷ second ∷ []) ≡ Ok [] ∷ Ok [] ∷ []
unfolding paragraph_limit kind_of kind_at known_row
answers_of_seen = refl
