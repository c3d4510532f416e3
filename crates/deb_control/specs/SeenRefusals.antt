-- All refusals of a file, with what a reader shows of each. Debian Policy 5.1 and 5.3 to 5.6; the
-- order of the refusals is this project's own.
use Rattle.std.specs.Prelude.{◌≡◌, ℕ, ◌+◌, Bool, true, false, List, [], ◌∷◌, ◌++◌, length, map, Option, Some, None, Result, Ok, Err, codes, refl}
use Rattle.std.specs.Option.{option_map}
use Rattle.std.specs.Str.{is_utf8, chars}
use lib.Utf8.{encode}
use Rattle.deb_base.specs.Bodies.{Line, paragraph_limit, file_limit}
use Rattle.deb_base.specs.declared.code.Code.TheVariants.{Comment, MissingField, NoParagraph, TooManyParagraphs}
use Rattle.deb_base.specs.declared.doc.Doc.{Doc}
use Rattle.deb_base.specs.declared.refusal.Refusal.{Refusal}
use Rattle.deb_syntax.specs.Answers.{Seen}
use Rattle.deb_syntax.specs.Judged.{line_judged}
use Rattle.deb_syntax.specs.Meaning.{Entries}
use Rattle.deb_control.specs.Documents.{rules_of}
use Rattle.deb_control.specs.Refusals.{Answered, Outcome, outcome, passed_in}
use Rattle.deb_control.specs.Refused.{lines_after, seen_after}
use Rattle.deb_control.specs.Rules.{Rules}
use Rattle.deb_control.specs.Streams.{CheckedItem, CheckedStream, stream_after, stream_given}
use Rattle.deb_base.specs.declared.doc.Doc.TheVariants.{Packages}

-- A refusal as a reader shows it: with the line of the refused paragraph that has its number, and
-- with what is seen of that paragraph, where its lines aren't refused.
pub record SeenRefusal : Type 0 where
  pub refusal : Refusal
  pub line : Option Line
  pub seen : Option Seen

-- This refusal of the paragraph after the first `k`, of which these have passed.
abbrev pub refusal_seen_after : Rules → List ℕ → ℕ → List Entries → Refusal → SeenRefusal
refusal_seen_after rules text k before refusal =
    record {
      refusal = refusal;
      line = line_judged refusal.line (lines_after rules text k before);
      seen = seen_after rules text k before;
    }

-- the paragraph after these before what follows it: what follows gets those that have passed
abbrev pub seen_with : Rules → List ℕ → ℕ → List Entries → Result Entries Refusal
    → (List Entries → List SeenRefusal) → List SeenRefusal
seen_with rules text k before (Ok entries) more = more (before ++ entries ∷ [])
seen_with rules text k before (Err refusal) more =
    refusal_seen_after rules text k before refusal ∷ more before

-- the refusals of items after the first `k` paragraphs, and of the end
abbrev pub seen_in_items : Rules → List ℕ → ℕ → List Entries → List CheckedItem → Option Refusal
    → List SeenRefusal
seen_in_items rules text k before [] None = []
seen_in_items rules text k before [] (Some refusal) =
    refusal_seen_after rules text k before refusal ∷ []
seen_in_items rules text k before (item ∷ items) end =
    seen_with rules text k before item.bodies
    (λ passed. seen_in_items rules text (k + 1) passed items end)

abbrev pub seen_in_stream : Rules → List ℕ → ℕ → List Entries → CheckedStream → List SeenRefusal
seen_in_stream rules text k before stream =
    seen_in_items rules text k before stream.items stream.end

-- The refusals of a file after its first `k` paragraphs, of which these have passed.
abbrev pub refusals_seen_after : Rules → List ℕ → ℕ → List Entries → List SeenRefusal
refusals_seen_after rules text k before =
    seen_in_stream rules text k before (stream_after rules text k before)

-- and where this was answered of each of them
abbrev pub refusal_seen_given : Rules → List ℕ → List Answered → Refusal → SeenRefusal
refusal_seen_given rules text answered refusal =
    refusal_seen_after rules text (length answered) (passed_in answered) refusal

abbrev pub refusals_seen_given : Rules → List ℕ → List Answered → List SeenRefusal
refusals_seen_given rules text answered =
    seen_in_stream rules text (length answered) (passed_in answered)
    (stream_given rules text answered)

-- All refusals of a file, in the order of its runs.
abbrev pub refusals_seen_by : Rules → List ℕ → List SeenRefusal
refusals_seen_by rules text = refusals_seen_given rules text []

abbrev pub refusals_seen : Doc → List ℕ → List SeenRefusal
refusals_seen doc text = refusals_seen_by (rules_of doc) text

-- the refusals alone
abbrev pub refusals_alone : List SeenRefusal → List Refusal
refusals_alone refusals = map (λ seen. seen.refusal) refusals

-- The first refusal of a file, if this comes of it: that of the paragraph after those that pass.
abbrev pub first_seen_in : Rules → List ℕ → Outcome → Option SeenRefusal
first_seen_in rules text come =
    option_map (refusal_seen_after rules text (length come.passed) come.passed) come.refusal

abbrev pub first_seen : Rules → List ℕ → Option SeenRefusal
first_seen rules text = first_seen_in rules text (outcome rules text)

-- for the worked cases: all bodies are good, and Package is asked
abbrev sample : Bool → Rules
sample single = record {
  refusal = λ name body. None;
  canonical = λ name body. body;
  required = codes "Package" ∷ [];
  single = single;
}

-- a comment, and a paragraph that lacks a name
abbrev comment : ℕ → SeenRefusal
comment n = record {
  refusal = record { code = Comment; line = n };
  line = Some (codes "# b");
  seen = None;
}

abbrev nameless : ℕ → SeenRefusal
nameless n = record {
  refusal = record { code = MissingField; line = n };
  line = Some (codes "X:1");
  seen = Some (record {
    first = n;
    fields = record { name = codes "X"; line = n; body = codes "1" } ∷ [];
  });
}

-- no fault, one in the middle, and two after a paragraph that passes
refusals_of_texts : (refusals_seen_by (sample false) (codes "Package:a\n") ≡ [])
    × (refusals_seen_by (sample false) (codes "Package:a\n\nX:1\n\nPackage:b\n") ≡ nameless 3 ∷ [])
    × (refusals_seen_by (sample false) (codes "Package:a\n\n# b\n\nX:1\n")
    ≡ comment 3 ∷ nameless 5 ∷ [])
    × (refusals_alone (comment 3 ∷ nameless 5 ∷ [])
    ≡ record { code = Comment; line = 3 } ∷ record { code = MissingField; line = 5 } ∷ [])
unfolding file_limit paragraph_limit is_utf8 chars encode
refusals_of_texts = (refl, refl, refl, refl)

-- where one paragraph is asked for, the first refusal is the last one; nothing is seen of a
-- paragraph that is missing, or one too many
one_asked : (refusals_seen_by (sample true) (codes "# b\n\nX:1\n") ≡ comment 1 ∷ [])
    × (refusals_seen_by (sample true) (codes "\nX:1\n\n# b\n") ≡ nameless 2 ∷ [])
    × (refusals_seen_by (sample true) [] ≡ record {
      refusal = record { code = NoParagraph; line = 1 };
      line = None;
      seen = None;
    } ∷ [])
    × (refusals_seen_by (sample true) (codes "Package:a\n\n#\n") ≡ record {
      refusal = record { code = TooManyParagraphs; line = 3 };
      line = None;
      seen = None;
    } ∷ [])
unfolding file_limit paragraph_limit is_utf8 chars encode
one_asked = (refl, refl, refl, refl)

-- the first of several, and none
first_refusals : (first_seen (sample false) (codes "Package:a\n\n# b\n\nX:1\n") ≡ Some (comment 3))
    × (first_seen (sample false) (codes "Package:a\n") ≡ None)
unfolding file_limit paragraph_limit is_utf8 chars encode
first_refusals = (refl, refl)

-- after a first paragraph that was refused, and from the start
after_refused : (refusals_seen_given (sample false) (codes "#\n\n# b\n\nX:1\n")
    (Err (record { code = Comment; line = 1 }) ∷ []) ≡ comment 3 ∷ nameless 5 ∷ [])
    × (refusals_seen_after (sample false) (codes "#\n\n# b\n") 1 [] ≡ comment 3 ∷ [])
    × (refusal_seen_given (sample false) (codes "#\n\n# b\n")
    (Err (record { code = Comment; line = 1 }) ∷ []) (record { code = Comment; line = 3 })
    ≡ comment 3)
    × (refusals_seen Packages (codes "# b\n") ≡ comment 1 ∷ [])
unfolding file_limit paragraph_limit is_utf8 chars encode
after_refused = (refl, refl, refl, refl)
