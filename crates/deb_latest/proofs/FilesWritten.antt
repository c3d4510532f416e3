-- What is written of files, one after another, and of all of them once both passes are done.
use Rattle.std.proofs.Common.{◌≡◌, ℕ, List, [], ◌∷◌, ◌++◌, length, refl, sym, ap, ◌∙◌, subst, append-nil, append_assoc}
use Rattle.std.proofs.lemmas.List.{length-map}
use Rattle.std.specs.Io.KnownBytes.{Appends}
use Rattle.std.proofs.KnownBytes.{Appends-nil, Appends-trans}
use Rattle.std.specs.List.{filter}
use Rattle.deb_base.specs.Devices.{AppendsFront}
use Rattle.deb_base.proofs.Writes.{AppendsFront-more, AppendsFront-then}
use Rattle.deb_syntax.specs.Lines.{paragraphs_of}
use Rattle.deb_control.specs.Documents.{Meaning}
use Rattle.deb_latest.specs.Entries.{entries_of}
use Rattle.deb_latest.specs.FileLaws.{BothPassesAgree, FaultsLeaveAPrefix, FilesAreWritten, NoFileIsWritten, PartsAreWritten}
use Rattle.deb_latest.specs.Files.{paragraphs_in}
use Rattle.deb_latest.specs.Requests.{Asked, latest_of}
use Rattle.deb_latest.specs.Winning.{wins}
use Rattle.deb_latest.specs.Writes.{HasWritten}
use Rattle.deb_latest.specs.Written.{chosen, chosen_text, text_after}
use Rattle.deb_latest.proofs.FilesRead.{files_have_their_paragraphs, last_file}
use Rattle.deb_latest.proofs.PassedTexts.{first_paragraphs}
use Rattle.deb_latest.proofs.Picked.{chosen-picked, length-picked}
use Rattle.deb_latest.proofs.Reading.{entries-length, entries-numbered}
use Rattle.deb_latest.proofs.WrittenTexts.{text_after-append, text_grows}

pub no_file_is_written : NoFileIsWritten
no_file_is_written numbers count winners old has = record { has = has; written = Appends-nil old }

pub files_are_written : FilesAreWritten
files_are_written numbers count texts text winners next old held new so_far file = record {
  has = subst (λ ps. HasWritten numbers count ps next) (sym (last_file texts text)) file.has;
  written = subst (Appends old new) (sym (ap (chosen_text numbers) (last_file texts text) ∙ text_grows numbers (paragraphs_in texts) (paragraphs_of text)))
      (Appends-trans old held new _ _ so_far.written file.written);
}

pub parts_are_written : PartsAreWritten
parts_are_written numbers before text old new reads =
    let first = first_paragraphs reads.read reads.rest reads.closed in
    subst (AppendsFront old new) (sym (ap (λ t. text_after numbers before (paragraphs_of t)) reads.whole ∙ ap (text_after numbers before) first.1 ∙ text_after-append numbers before (paragraphs_of reads.read) first.0))
    (AppendsFront-more old new _ _ (whole_front reads.written))
  where
    whole_front : {bytes : List ℕ} → Appends old new bytes → AppendsFront old new bytes
    whole_front {bytes} written = record { front = bytes; rest = []; whole = sym (append-nil bytes); appended = written }

pub files_more : (texts : List (List ℕ)) (text : List ℕ) (more : List (List ℕ)) → paragraphs_in (texts ++ text ∷ more) ≡ paragraphs_in texts ++ (paragraphs_of text ++ paragraphs_in more)
files_more [] text more = refl
files_more (first ∷ texts) text more = ap (λ ps. paragraphs_of first ++ ps) (files_more texts text more) ∙ sym (append_assoc (paragraphs_of first) (paragraphs_in texts) (paragraphs_of text ++ paragraphs_in more))

pub faults_leave_a_prefix : FaultsLeaveAPrefix
faults_leave_a_prefix numbers count texts text more winners old held new so_far front =
    let before = paragraphs_in texts in
    subst (AppendsFront old new) (sym (ap (chosen_text numbers) (files_more texts text more) ∙ text_grows numbers before (paragraphs_of text ++ paragraphs_in more)))
    (AppendsFront-then old held new _ _ so_far.written
    (subst (AppendsFront held new) (sym (text_after-append numbers before (paragraphs_of text) (paragraphs_in more)))
    (AppendsFront-more held new _ (text_after numbers (before ++ paragraphs_of text) (paragraphs_in more)) front)))

-- one is chosen for each number
pub each_is_chosen : {X : Type 0} (asked : Asked) (meaning : Meaning) (xs : List X) → length xs ≡ length meaning → length (chosen (latest_of asked meaning) xs) ≡ length (latest_of asked meaning)
each_is_chosen asked meaning xs same =
    let entries = entries_of asked.by meaning in
    let p = wins asked.limit entries in
    let long : length xs ≡ length entries = same ∙ sym (entries-length asked.by 0 meaning) in
    ap length (chosen-picked (latest_of asked meaning) 0 p entries xs (entries-numbered asked.by 0 meaning) long (λ k above. refl))
    ∙ length-picked p entries xs long
    ∙ sym (length-map (filter p entries) (λ e. e.number))

pub both_passes_agree : BothPassesAgree
both_passes_agree asked texts meaning winners old new mean has =
    let complete = files_have_their_paragraphs asked.kind texts meaning mean in
    record { written = has.written; complete = complete; each = each_is_chosen asked meaning (paragraphs_in texts) complete }
