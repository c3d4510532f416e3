-- The files that are read one after another.
use Rattle.std.proofs.Common.{◌≡◌, ◌<◌, ◌≤◌, ◌+◌, ◌∙◌, ℕ, List, [], ◌∷◌, ◌++◌, drop, get_or, length, take, ap, arith, inl, inr, sym}
use Rattle.std.specs.Borrow.{Bor}
use Rattle.std.specs.Prelude.{Option}
use Rattle.std.proofs.lemmas.List.{drop_more, length-map, length-take-le, map-append, take-append-drop}
use Rattle.deb_relation.specs.Views.{names_of}
use Rattle.deb_latest.specs.Reads.{ReadsFile}
use Rattle.deb_latest.specs.Files.{HasWrittenFiles, paragraphs_in}
use Rattle.deb_latest.specs.Requests.{Asked}
use Rattle.deb_latest.specs.Writes.{WritesFile}
use Rattle.deb_latest.specs.declared.winners.Winners.{Winners}
use Rattle.deb_latest.specs.declared.latest.Latest.{Latest}
use Rattle.deb_latest.proofs.FilesRead.{files_follow}
use Rattle.deb_latest.proofs.FilesWritten.{files_are_written}
use Rattle.debctl_ffi.specs.Answers.{refusing}
use Rattle.debctl_ffi.specs.Latest.{HasReadAll, IsNoLimit, StopsAt, StopsReading}
use Rattle.debctl_ffi.specs.Versions.{IsNoVersion, bad_version}
use Rattle.debctl_ffi.specs.declared.answer.Answer.{Answer}
use Rattle.debctl_ffi.proofs.FirstTexts.{first_texts, one_more}

-- one more file was read
pub reads_more : (asked : Asked) (texts : List (List ℕ)) (text : List ℕ) (before latest : Latest)
    → (has : HasReadAll asked texts before) → ReadsFile asked has.meaning text latest → HasReadAll asked (texts ++ text ∷ []) latest
reads_more asked texts text before latest has reads = record {
  meaning = has.meaning ++ reads.meaning;
  means = files_follow asked.kind texts text has.meaning reads.meaning has.means reads.accepted;
  has = reads.has;
}

-- one is refused, or memory is out
pub stops_at_one : (asked : Asked) (texts : List (Bor (List ℕ))) (n : ℕ) (d : Bor (List ℕ)) (latest : Latest) (told : Answer) → n < length texts
    → HasReadAll asked (first_texts n texts) latest → StopsAt latest.kind (get_or texts n d).now (n + 1) told
    → StopsReading asked.kind (names_of texts) told
stops_at_one asked texts n d latest told less has (inl one) =
    let long : length (first_texts n texts) ≡ n = length-map (take n texts) (λ t. t.now) ∙ length-take-le n texts (omega (arith, less)) in
    inl (record {
      earlier = first_texts n texts;
      text = (get_or texts n d).now;
      later = names_of (drop (n + 1) texts);
      whole =
          ap names_of (sym (take-append-drop n texts)) ∙ map-append (λ t. t.now) (take n texts) (drop n texts)
          ∙ ap (λ l. first_texts n texts ++ names_of l) (drop_more texts n d less);
      meaning = has.meaning;
      means = has.means;
      refuses = rw (long, ← has.has.kind) one;
    })
stops_at_one asked texts n d latest told less has (inr memory) = inr memory

-- ---- the limit

pub no_limit : (before : List ℕ) (told : Answer) → 1 ≤ length before → IsNoVersion before × (told ≡ refusing 2 bad_version) → IsNoLimit before told
no_limit [] told long both = absurd (omega (arith, long))
no_limit (b ∷ bs) told long both = both

-- ---- a loop

pub written_more : (numbers : List ℕ) (count : ℕ) (texts : List (Bor (List ℕ))) (n : ℕ) (d : Bor (List ℕ)) (winners next : Winners) (old held new : Option (List ℕ))
    → n < length texts → HasWrittenFiles numbers count (first_texts n texts) winners old held
    → WritesFile numbers count (paragraphs_in (first_texts n texts)) (get_or texts n d).now next held new
    → HasWrittenFiles numbers count (first_texts (n + 1) texts) next old new
written_more numbers count texts n d winners next old held new less has file =
    rw (one_more texts n d less) (files_are_written numbers count (first_texts n texts) (get_or texts n d).now winners next old held new has file)

pub read_more_files : (asked : Asked) (texts : List (Bor (List ℕ))) (n : ℕ) (d : Bor (List ℕ)) (latest : Latest) → n < length texts
    → HasReadAll asked (first_texts n texts ++ (get_or texts n d).now ∷ []) latest → HasReadAll asked (first_texts (n + 1) texts) latest
read_more_files asked texts n d latest less has = rw (one_more texts n d less) has
