-- What the parts of a reader of checked paragraphs show while the next one is found.
use Rattle.std.specs.Prelude.{◌≡◌, ◌⊎◌, ℕ, ◌+◌, ◌<◌, ◌≤◌, ◌==◌, ◌&&◌, Bool, true, false, cond, List, [], length, Option, None, Some, Result, Ok, Err, refl, codes}
use Rattle.std.proofs.lemmas.Bool.{leb-true}
use Rattle.deb_base.specs.Bodies.{file_limit}
use Rattle.deb_base.specs.declared.code.Code.TheVariants.{NoParagraph, FileTooLong}
use Rattle.deb_base.specs.declared.fault.Fault.{Fault}
use Rattle.deb_base.specs.declared.fault.Fault.TheVariants.{Refused, Read}
use Rattle.deb_base.specs.declared.refusal.Refusal.{Refusal}
use Rattle.deb_syntax.specs.Answers.{Seen}
use Rattle.deb_syntax.specs.Meaning.{Entries}
use Rattle.deb_base.specs.Docs.{is_single}
use Rattle.deb_base.specs.declared.doc.Doc.{Doc}
use Rattle.deb_base.specs.declared.doc.Doc.TheVariants.{Binary, Packages, Source, Sources, Status, Any}
use Rattle.deb_control.specs.Canonical.{paragraph_text}
use Rattle.deb_control.specs.Documents.{rules_of}
use Rattle.deb_control.specs.Refusals.{built}
use Rattle.deb_control.specs.Totals.{bytes_with}
use Rattle.deb_syntax.specs.Paragraphs.{state_of}
use Rattle.deb_syntax.specs.declared.paragraphs.Paragraphs.{Paragraphs}
use Rattle.deb_control.specs.Checking.{CheckedMoment, Passing}
use Rattle.deb_control.specs.declared.totals.Totals.{Totals}
use Rattle.deb_syntax.specs.Literals.{a_reader, found}

-- A reader of paragraphs and the totals of what it gave, with a source that has these bytes left
-- and failed so often; what was given last, and the error, are beside them.
abbrev pub moment_from : Option Seen → Option Fault → Paragraphs → Totals → Option (List ℕ) → ℕ
    → CheckedMoment
moment_from shown fault paragraphs totals left failures = record {
  state =
      record {
        reader = state_of paragraphs;
        count = totals.paragraphs;
        bytes = totals.bytes;
        current = shown;
        fault = fault;
      };
  source = record { bytes = left; failures = failures };
}

-- what is answered where no paragraph follows, after so many lines
abbrev pub end_answer : Doc → Totals → ℕ → Result Bool Fault
end_answer doc totals lines =
    cond (is_single doc && (totals.paragraphs == 0))
    (Err (Refused (record { code = NoParagraph; line = lines + 1 }))) (Ok false)

-- The paragraph passes after those that were given, and counts as given then.
pub record AddsPassing (doc : Doc) (seen : Seen) (old new : Totals) : Type 0 where
  pub entries : Entries
  pub built : built (rules_of doc) seen ≡ Ok entries
  pub paragraphs : new.paragraphs ≡ old.paragraphs + 1
  pub bytes : new.bytes ≡ bytes_with old.paragraphs old.bytes (length (paragraph_text entries))
  pub within : new.bytes ≤ file_limit

-- With the paragraph, the canonical text of the file is too long.
pub record IsTooLong (doc : Doc) (seen : Seen) (totals : Totals) (refusal : Refusal) : Type 0 where
  pub entries : Entries
  pub built : built (rules_of doc) seen ≡ Ok entries
  pub long : file_limit
      < bytes_with totals.paragraphs totals.bytes (length (paragraph_text entries))
  pub is : refusal ≡ record { code = FileTooLong; line = seen.first }

-- The paragraph is refused so, by itself or after those that were given.
abbrev pub RefusesSeen : Doc → Seen → Totals → Refusal → Type 0
RefusesSeen doc seen totals refusal =
    (built (rules_of doc) seen ≡ Err refusal) ⊎ IsTooLong doc seen totals refusal

-- what an answer that there is a paragraph, or none, says where this one is given
abbrev pub given_answer : Passing → Result Bool Fault → Result (Option Passing) Fault
given_answer given (Ok true) = Ok (Some given)
given_answer given (Ok false) = Ok None
given_answer given (Err fault) = Err fault

-- the paragraph that was found; nothing where none was
abbrev pub seen_found : Option Seen → Seen
seen_found None = record { first = 0; fields = [] }
seen_found (Some seen) = seen

-- for the worked cases: nothing was given, or one paragraph without text
abbrev none_given : Totals
none_given = record {
  paragraphs = 0;
  bytes = 0;
  within = leb-true 0 4294967295 refl;
  few = leb-true 0 1 refl;
}

abbrev one_given : Totals
one_given = record {
  paragraphs = 1;
  bytes = 0;
  within = leb-true 0 4294967295 refl;
  few = leb-true 1 1 refl;
}

-- a document of one paragraph lacks it at the line after the last one
ends_without_paragraph : (end_answer Binary none_given 2
    ≡ Err (Refused (record { code = NoParagraph; line = 3 })))
    × (end_answer Source none_given 0 ≡ Err (Refused (record { code = NoParagraph; line = 1 })))
    × (end_answer Packages none_given 2 ≡ Ok false) × (end_answer Sources none_given 2 ≡ Ok false)
    × (end_answer Status none_given 2 ≡ Ok false) × (end_answer Any none_given 2 ≡ Ok false)
    × (end_answer Binary one_given 2 ≡ Ok false)
ends_without_paragraph = (refl, refl, refl, refl, refl, refl, refl)

abbrev bare : Passing
bare = record { seen = record { first = 4; fields = [] }; text = [] }

answers_with_given : (given_answer bare (Ok true) ≡ Ok (Some bare))
    × (given_answer bare (Ok false) ≡ Ok None) × (given_answer bare (Err Read) ≡ Err Read)
answers_with_given = (refl, refl, refl)

paragraph_or_none : (seen_found (Some found) ≡ found)
    × (seen_found None ≡ record { first = 0; fields = [] })
paragraph_or_none = (refl, refl)

moment_by_parts : moment_from (Some found) (Some Read) a_reader one_given (Some (codes "D")) 3
    ≡ record {
      state =
          record {
            reader = state_of a_reader;
            count = 1;
            bytes = 0;
            current = Some found;
            fault = Some Read;
          };
      source = record { bytes = Some (codes "D"); failures = 3 };
    }
moment_by_parts = refl
