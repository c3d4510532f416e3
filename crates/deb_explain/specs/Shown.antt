-- What the values of the code show of an explanation.
use Rattle.std.specs.Prelude.{◌≡◌, ℕ, codes, refl, Some}
use Rattle.deb_explain.specs.Explanations.{WhyRefused}
use Rattle.deb_explain.specs.Subjects.{About, AboutWhole, AboutLine, AboutName, AboutMissing}
use Rattle.deb_explain.specs.Subjects.{AboutField}
use Rattle.deb_explain.specs.declared.explained.Explained.{Explained}
use Rattle.deb_explain.specs.declared.explained.Explained.TheVariants.{Accepted, Refused}
use Rattle.deb_explain.specs.declared.explained.Explanation.{Explanation}
use Rattle.deb_explain.specs.declared.explained.Subject.{Subject}
use Rattle.deb_explain.specs.declared.explained.Subject.TheVariants.{Whole, Line, Name, Missing}
use Rattle.deb_explain.specs.declared.explained.Subject.TheVariants.{Field}
use Rattle.deb_base.specs.Literals.{lent, vector}
use Rattle.deb_base.specs.declared.code.Code.TheVariants.{BadVersion}
use Rattle.deb_explain.specs.declared.cause.Cause.TheVariants as causes
use Rattle.deb_version.specs.declared.fault.BadVersion.TheVariants.{RevisionEmpty}

abbrev pub about_of : Subject → About
about_of Whole = AboutWhole
about_of (Line line) = AboutLine line.items
about_of (Name name) = AboutName name.items
about_of (Missing name) = AboutMissing name.now
about_of (Field field) =
    AboutField field.name.items field.column field.body.items field.cause

abbrev pub shown_by : Explanation → WhyRefused
shown_by explanation =
    record { refusal = explanation.refusal; about = about_of explanation.subject }

-- a fact for the answer that a text is accepted, and one for the answer that it is refused
abbrev pub IfAccepted : Explained → (ℕ → Type 0) → Type 0
IfAccepted (Accepted count) P = P count
IfAccepted (Refused explanation) P = Unit {0}

abbrev pub IfRefused : Explained → (Explanation → Type 0) → Type 0
IfRefused (Accepted count) P = Unit {0}
IfRefused (Refused explanation) P = P explanation

-- each subject by its bytes
subjects : (about_of (Line (vector (codes "# a") refl)) ≡ AboutLine (codes "# a"))
    × (about_of (Name (vector (codes "A B") refl)) ≡ AboutName (codes "A B"))
    × (about_of (Missing (lent (codes "A"))) ≡ AboutMissing (codes "A"))
    × (shown_by (record {
      refusal = record { code = BadVersion; line = 2 };
      subject = Field (record {
        name = vector (codes "vERSION") refl;
        column = 10;
        body = vector (codes "1-") refl;
        cause = Some (causes.Version RevisionEmpty 0);
      });
    }) ≡ record {
      refusal = record { code = BadVersion; line = 2 };
      about = AboutField
          (codes "vERSION") 10 (codes "1-") (Some (causes.Version RevisionEmpty 0));
    })
subjects = (refl, refl, refl, refl)
