-- What is written of a file, while its runs of lines are checked and at the end. Debian Policy 5.1.
use Rattle.std.specs.Prelude.{◌≡◌, ℕ, Bool, true, false, List, ◌++◌, length, Option, None, Result, Ok, Err, codes, refl}
use Rattle.std.specs.Io.KnownBytes.{Appends}
use Rattle.std.specs.Fmt.{digits}
use Rattle.std.specs.List.{flat_map}
use Rattle.deb_base.specs.Devices.{AppendsFront}
use Rattle.deb_base.specs.Lines.{refusal_line}
use Rattle.deb_base.specs.declared.code.Code.TheVariants.{BadNumber}
use Rattle.deb_base.specs.declared.doc.Doc.{Doc}
use Rattle.deb_base.specs.declared.fault.Fault.{Fault}
use Rattle.deb_base.specs.declared.fault.Fault.TheVariants.{Refused, Memory, Read, Write}
use Rattle.deb_base.specs.declared.refusal.Refusal.{Refusal}
use Rattle.deb_control.specs.AllRefusals.{file_lines, lines_of_refusals, passed_of, refusals_of, total_line}
use Rattle.deb_control.specs.GivenRefusals.{AreFirst, GivesAll, HasGiven}
use Rattle.deb_control.specs.SeenRefusals.{SeenRefusal, refusals_seen}
use Rattle.deb_control.specs.declared.refusals.Refusals.{Refusals}
use Rattle.deb_control.specs.declared.summary.Summary.{Summary}
use Rattle.deb_base.specs.declared.doc.Doc.TheVariants.{Packages}
use Rattle.deb_base.specs.Bodies.{file_limit, paragraph_limit}
use Rattle.std.specs.Str.{is_utf8, chars}
use lib.Utf8.{encode}

-- Exactly the lines of the file were written, and the summary has its counts.
pub record WritesAll (doc : Doc) (text : List ℕ) (summary : Summary) (old new : Option (List ℕ))
    : Type 0 where
  pub passed : summary.passed ≡ passed_of doc text
  pub refused : summary.refused ≡ length (refusals_of doc text)
  pub written : Appends old new (file_lines doc text)

-- Exactly the lines of the file's first refusals were written; others may follow.
pub record WritesFirst (doc : Doc) (text : List ℕ) (old new : Option (List ℕ)) : Type 0 where
  pub first : List Refusal
  pub more : List Refusal
  pub all : refusals_of doc text ≡ first ++ more
  pub written : Appends old new (lines_of_refusals first)

-- out of memory, a failed read or a failed write: no refusal
abbrev pub IsNoRefusal : Fault → Type 0
IsNoRefusal (Refused refusal) = ⊥
IsNoRefusal Memory = Unit {0}
IsNoRefusal Read = Unit {0}
IsNoRefusal Write = Unit {0}

-- The first argument of what follows is what is written of a refusal as it is seen.

-- the line of a refusal
abbrev pub line_written : SeenRefusal → List ℕ
line_written seen = refusal_line seen.refusal

-- all that is written of a file
abbrev pub text_written : (SeenRefusal → List ℕ) → Doc → List ℕ → List ℕ
text_written of doc text =
    flat_map of (refusals_seen doc text)
    ++ total_line (passed_of doc text) (length (refusals_of doc text))

-- Exactly this was written of refusals, of which this is known.
pub record HasWritten (of : SeenRefusal → List ℕ) (Given : List SeenRefusal → Type 0)
    (old held : Option (List ℕ)) : Type 0 where
  pub done : List SeenRefusal
  pub given : Given done
  pub written : Appends old held (flat_map of done)

-- What an answer says of one refusal more: whether there is one, or which error came. It was
-- written of those that were given, of all, or of the first ones.
abbrev pub WritesNext : (SeenRefusal → List ℕ) → Doc → List ℕ → Result Bool Fault → Refusals
    → Option (List ℕ) → Option (List ℕ) → Option (List ℕ) → Type 0
WritesNext of doc text (Ok true) r left old held = HasWritten of (HasGiven doc text r left) old held
WritesNext of doc text (Ok false) r left old held =
    HasWritten of (GivesAll doc text r left) old held
WritesNext of doc text (Err (Refused refusal)) r left old held = ⊥
WritesNext of doc text (Err Memory) r left old held = HasWritten of (AreFirst doc text) old held
WritesNext of doc text (Err Read) r left old held = HasWritten of (AreFirst doc text) old held
WritesNext of doc text (Err Write) r left old held =
    AppendsFront old held (text_written of doc text)

-- the line of a refusal, whatever is seen of it
worked-line :
    line_written
    (record { refusal = record { code = BadNumber; line = 4 }; line = None; seen = None })
    ≡ codes "line 4: 15 BadNumber\n"
unfolding digits
worked-line = refl

worked-text : text_written line_written Packages (codes "# a\n\n# b\n")
    ≡ codes "line 1: 3 Comment\nline 3: 3 Comment\nok 0, 2 refused\n"
unfolding file_limit paragraph_limit is_utf8 chars encode digits
worked-text = refl
