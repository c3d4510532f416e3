-- Of what is written all is written again: there each paragraph wins.
use Rattle.std.proofs.Common.{◌≡◌, ℕ, ◌+◌, ◌<◌, ◌&&◌, ◌||◌, Bool, true, false, not, cond, nat_lt, List, [], ◌∷◌, ◌++◌, length, Option, None, Some, refl, sym, ap, ◌∙◌, subst, append-nil, arith}
use Rattle.std.specs.List.{AllByRecursion, filter, list_any}
use Rattle.std.specs.Ordering.{is_eq, is_gt, is_lt}
use Rattle.std.specs.Str.{bytes_eq}
use Rattle.deb_version.specs.Order.{version_cmp}
use Rattle.deb_version.specs.Parts.{Meaning as Version}
use Rattle.deb_syntax.specs.Lines.{Paragraph, paragraphs_of, with_newlines}
use Rattle.deb_control.specs.Documents.{Meaning}
use Rattle.deb_control.specs.Pairs.{Pairwise}
use Rattle.deb_control.proofs.GivenValues.{pairwise-length}
use Rattle.deb_latest.specs.Entries.{doc_of, entries_from, entries_of, entry_of}
use Rattle.deb_latest.specs.FileLaws.{LatestTextIsItsOwn}
use Rattle.deb_latest.specs.Files.{latest_in, paragraphs_in}
use Rattle.deb_latest.specs.Requests.{Asked, latest_of}
use Rattle.deb_latest.specs.Winning.{Entry, beats, is_better, is_considered, winners_in, wins}
use Rattle.deb_latest.specs.Written.{chosen, gap, written_after}
use Rattle.deb_latest.specs.declared.request.By.{By}
use Rattle.deb_latest.proofs.Filtered.{none-filter, parts, won}
use Rattle.deb_latest.proofs.FittingParagraphs.{FitsValues, HaveTheLines, of_files, pairs-chosen, paragraphs_written, runs-from_fitting}
use Rattle.deb_latest.proofs.Picked.{chosen-picked, picked}
use Rattle.deb_latest.proofs.Reading.{entries-length, entries-numbered}

-- Two paragraphs are of one package and one version; others come later.
record Alike (e f : Entry) : Type 0 where
  key : e.key ≡ f.key
  version : e.version ≡ f.version

abbrev AreLater : ℕ → List Entry → Type 0
AreLater n entries = AllByRecursion (λ e. n < e.number) entries

abbrev AreOrdered : List Entry → Type 0
AreOrdered [] = Unit {0}
AreOrdered (e ∷ entries) = AreLater e.number entries × AreOrdered entries

earlier : (a b : ℕ) → a < b → nat_lt a b ≡ true
earlier a b h = grind (arith, h)

not_earlier : (a b : ℕ) → a < b → nat_lt b a ≡ false
not_earlier a b h = grind (arith, h)

not_itself : (a : ℕ) → nat_lt a a ≡ false
not_itself a = grind arith

module _ (limit : Option Version) where
  considered-same : (e f : Entry) → Alike e f → is_considered limit e ≡ is_considered limit f
  considered-same e f alike = go limit
    where
      go : (limit : Option Version) → is_considered limit e ≡ is_considered limit f
      go None = refl
      go (Some l) = ap (λ v. is_lt (version_cmp v l)) alike.version

  abbrev BeatAlike : Entry → Entry → Entry → Entry → Type 0
  BeatAlike e f x y = beats limit e x ≡ beats limit f y

  beats-same : (e f x y : Entry) → Alike e f → Alike x y → nat_lt e.number x.number ≡ nat_lt f.number y.number → BeatAlike e f x y
  beats-same e f x y first second order =
      let ev = e.version in let xv = x.version in
      let rest = is_considered limit e && is_better e x in
      ap (λ k. bytes_eq k x.key && rest) first.key
      ∙ ap (λ k. bytes_eq f.key k && rest) second.key
      ∙ ap (λ c. bytes_eq f.key y.key && (c && is_better e x)) (considered-same e f first)
      ∙ ap (λ o. bytes_eq f.key y.key && (is_considered limit f && (is_gt (version_cmp ev xv) || (is_eq (version_cmp ev xv) && o)))) order
      ∙ ap (λ v. bytes_eq f.key y.key && (is_considered limit f && (is_gt (version_cmp v xv) || (is_eq (version_cmp v xv) && nat_lt f.number y.number)))) first.version
      ∙ ap (λ v. bytes_eq f.key y.key && (is_considered limit f && (is_gt (version_cmp f.version v) || (is_eq (version_cmp f.version v) && nat_lt f.number y.number)))) second.version

  -- later ones beside an earlier one
  later_beat : (x y : Entry) → Alike x y → (es fs : List Entry) → Pairwise Alike es fs → AreLater x.number es → AreLater y.number fs → Pairwise (λ e f. BeatAlike e f x y) es fs
  later_beat x y alike [] [] are es_later fs_later = tt
  later_beat x y alike [] (f ∷ fs) are es_later fs_later = absurd are
  later_beat x y alike (e ∷ es) [] are es_later fs_later = absurd are
  later_beat x y alike (e ∷ es) (f ∷ fs) are es_later fs_later = (
    beats-same e f x y are.0 alike (not_earlier x.number e.number es_later.0 ∙ sym (not_earlier y.number f.number fs_later.0)),
    later_beat x y alike es fs are.1 es_later.1 fs_later.1,
  )

  -- an earlier one before those that are compared
  with_first : (x y : Entry) → Alike x y → (all others : List Entry) → (es fs : List Entry) → Pairwise Alike es fs → AreLater x.number es → AreLater y.number fs
      → Pairwise (λ e f. Pairwise (λ a b. BeatAlike a b e f) all others) es fs → Pairwise (λ e f. Pairwise (λ a b. BeatAlike a b e f) (x ∷ all) (y ∷ others)) es fs
  with_first x y alike all others [] [] are es_later fs_later beat = tt
  with_first x y alike all others [] (f ∷ fs) are es_later fs_later beat = absurd are
  with_first x y alike all others (e ∷ es) [] are es_later fs_later beat = absurd are
  with_first x y alike all others (e ∷ es) (f ∷ fs) are es_later fs_later beat = (
    (beats-same x y e f alike are.0 (earlier x.number e.number es_later.0 ∙ sym (earlier y.number f.number fs_later.0)), beat.0),
    with_first x y alike all others es fs are.1 es_later.1 fs_later.1 beat.1,
  )

  all_beat : (es fs : List Entry) → Pairwise Alike es fs → AreOrdered es → AreOrdered fs → Pairwise (λ e f. Pairwise (λ a b. BeatAlike a b e f) es fs) es fs
  all_beat [] [] are es_ordered fs_ordered = tt
  all_beat [] (f ∷ fs) are es_ordered fs_ordered = absurd are
  all_beat (e ∷ es) [] are es_ordered fs_ordered = absurd are
  all_beat (e ∷ es) (f ∷ fs) are es_ordered fs_ordered = (
    (beats-same e f e f are.0 are.0 (not_itself e.number ∙ sym (not_itself f.number)), later_beat e f are.0 es fs are.1 es_ordered.0 fs_ordered.0),
    with_first e f are.0 es fs es fs are.1 es_ordered.0 fs_ordered.0 (all_beat es fs are.1 es_ordered.1 fs_ordered.1),
  )

  any-same : (x y : Entry) (es fs : List Entry) → Pairwise (λ e f. BeatAlike e f x y) es fs → list_any (λ e. beats limit e x) es ≡ list_any (λ e. beats limit e y) fs
  any-same x y [] [] beat = refl
  any-same x y [] (f ∷ fs) beat = absurd beat
  any-same x y (e ∷ es) [] beat = absurd beat
  any-same x y (e ∷ es) (f ∷ fs) beat = ap (λ b. b || list_any (λ e. beats limit e x) es) beat.0 ∙ ap (λ b. beats limit f y || b) (any-same x y es fs beat.1)

  abbrev AllWin : List Entry → List Entry → Type 0
  AllWin among entries = AllByRecursion (λ e. wins limit among e ≡ true) entries

  -- what wins among some wins among those that are alike
  win-same : (all others es fs : List Entry) → Pairwise Alike es fs → Pairwise (λ e f. Pairwise (λ a b. BeatAlike a b e f) all others) es fs → AllWin others fs → AllWin all es
  win-same all others [] fs are beat win = tt
  win-same all others (e ∷ es) [] are beat win = absurd are
  win-same all others (e ∷ es) (f ∷ fs) are beat win = (
    ap (λ b. is_considered limit e && not b) (any-same e f all others beat.0) ∙ ap (λ c. c && not (list_any (λ a. beats limit a f) others)) (considered-same e f are.0) ∙ win.0,
    win-same all others es fs are.1 beat.1 win.1,
  )

  -- those that win do so among themselves
  filter_win : (all entries : List Entry) → AllWin (winners_in limit all) (filter (wins limit all) entries)
  filter_win all [] = tt
  filter_win all (e ∷ entries) = go (wins limit all e) refl (filter_win all entries)
    where
      go : (t : Bool) → wins limit all e ≡ t → AllWin (winners_in limit all) (filter (wins limit all) entries) → AllWin (winners_in limit all) (cond t (e ∷ filter (wins limit all) entries) (filter (wins limit all) entries))
      go true is rest = (let p = parts limit all e is in won limit (winners_in limit all) e p.0 (none-filter (λ x. beats limit x e) (wins limit all) all p.1), rest)
      go false is rest = rest

-- entries of a meaning are ordered, and so are some of them
from_later : (by : By) (k n : ℕ) (meaning : Meaning) → k < n + 1 → AreLater k (entries_from by n meaning)
from_later by k n [] below = tt
from_later by k n (v ∷ meaning) below = (below, from_later by k (n + 1) meaning (omega (arith, below)))

from_ordered : (by : By) (n : ℕ) (meaning : Meaning) → AreOrdered (entries_from by n meaning)
from_ordered by n [] = tt
from_ordered by n (v ∷ meaning) = (from_later by (n + 1) (n + 1) meaning (omega arith), from_ordered by (n + 1) meaning)

filter_later : (k : ℕ) (p : Entry → Bool) (entries : List Entry) → AreLater k entries → AreLater k (filter p entries)
filter_later k p [] later = tt
filter_later k p (e ∷ entries) later = go (p e) (filter_later k p entries later.1)
  where
    go : (t : Bool) → AreLater k (filter p entries) → AreLater k (cond t (e ∷ filter p entries) (filter p entries))
    go true rest = (later.0, rest)
    go false rest = rest

filter_ordered : (p : Entry → Bool) (entries : List Entry) → AreOrdered entries → AreOrdered (filter p entries)
filter_ordered p [] ordered = tt
filter_ordered p (e ∷ entries) ordered = go (p e) (filter_later e.number p entries ordered.0) (filter_ordered p entries ordered.1)
  where
    go : (t : Bool) → AreLater e.number (filter p entries) → AreOrdered (filter p entries) → AreOrdered (cond t (e ∷ filter p entries) (filter p entries))
    go true later rest = (later, rest)
    go false later rest = rest

-- entries of what is picked are alike those that pass
picked_alike : (by : By) (p : Entry → Bool) (n m : ℕ) (meaning : Meaning) → Pairwise Alike (entries_from by m (picked p (entries_from by n meaning) meaning)) (filter p (entries_from by n meaning))
picked_alike by p n m [] = tt
picked_alike by p n m (v ∷ meaning) =
    go (picked p (entries_from by (n + 1) meaning) meaning) (p (entry_of by (n + 1) v)) (picked_alike by p (n + 1) (m + 1) meaning) (picked_alike by p (n + 1) m meaning)
  where
    go : (rest : Meaning) (t : Bool) → Pairwise Alike (entries_from by (m + 1) rest) (filter p (entries_from by (n + 1) meaning)) → Pairwise Alike (entries_from by m rest) (filter p (entries_from by (n + 1) meaning))
        → Pairwise Alike (entries_from by m (cond t (v ∷ rest) rest)) (cond t (entry_of by (n + 1) v ∷ filter p (entries_from by (n + 1) meaning)) (filter p (entries_from by (n + 1) meaning)))
    go rest true taken left = (record { key = refl; version = refl }, taken)
    go rest false taken left = left

all_picked : {X : Type 0} (p : Entry → Bool) (entries : List Entry) (xs : List X) → AllByRecursion (λ e. p e ≡ true) entries → length xs ≡ length entries → picked p entries xs ≡ xs
all_picked p [] [] all same = refl
all_picked p [] (x ∷ xs) all same = absurd (cc)
all_picked p (e ∷ entries) [] all same = absurd (cc)
all_picked p (e ∷ entries) (x ∷ xs) all same = ap (λ t. cond t (x ∷ picked p entries xs) (picked p entries xs)) all.0 ∙ ap (λ l. x ∷ l) (all_picked p entries xs all.1 (omega (arith, same)))

-- all are chosen of as many as won
module _ (asked : Asked) (meaning : Meaning) where
  abbrev first : List Entry
  first = entries_of asked.by meaning

  latest_picked : latest_in asked meaning ≡ picked (wins asked.limit first) first meaning
  latest_picked = chosen-picked (latest_of asked meaning) 0 (wins asked.limit first) first meaning (entries-numbered asked.by 0 meaning) (sym (entries-length asked.by 0 meaning)) (λ k above. refl)

  again_win : AllWin asked.limit (entries_of asked.by (latest_in asked meaning)) (entries_of asked.by (latest_in asked meaning))
  again_win =
      subst (λ m. AllWin asked.limit (entries_of asked.by m) (entries_of asked.by m)) (sym latest_picked)
      (let es = entries_of asked.by (picked (wins asked.limit first) first meaning) in
      let fs = winners_in asked.limit first in
      let alike = picked_alike asked.by (wins asked.limit first) 0 0 meaning in
      win-same asked.limit es fs es fs alike (all_beat asked.limit es fs alike (from_ordered asked.by 0 _) (filter_ordered (wins asked.limit first) first (from_ordered asked.by 0 meaning))) (filter_win asked.limit first first))

  all_chosen : {X : Type 0} (xs : List X) → length xs ≡ length (latest_in asked meaning) → chosen (latest_of asked (latest_in asked meaning)) xs ≡ xs
  all_chosen xs same =
      let entries = entries_of asked.by (latest_in asked meaning) in
      let p = wins asked.limit entries in
      let long : length xs ≡ length entries = same ∙ sym (entries-length asked.by 0 (latest_in asked meaning)) in
      chosen-picked (latest_of asked (latest_in asked meaning)) 0 p entries xs (entries-numbered asked.by 0 (latest_in asked meaning)) long (λ k above. refl)
      ∙ all_picked p entries xs again_win long

written-same : (begun : Bool) (ps qs : List Paragraph) → Pairwise HaveTheLines ps qs → written_after begun qs ≡ written_after begun ps
written-same begun [] [] same = refl
written-same begun [] (q ∷ qs) same = absurd same
written-same begun (p ∷ ps) [] same = absurd same
written-same begun (p ∷ ps) (q ∷ qs) same =
    ap (λ lines. gap begun ++ (with_newlines lines ++ written_after true qs)) (sym same.0)
    ∙ ap (λ text. gap begun ++ (with_newlines p.lines ++ text)) (written-same true ps qs same.1)

pub latest_text_is_its_own : LatestTextIsItsOwn
latest_text_is_its_own asked texts meaning mean =
    let doc = doc_of asked.kind in
    let numbers = latest_of asked meaning in
    let written = chosen numbers (paragraphs_in texts) in
    let text = written_after false written in
    let fit = pairs-chosen (FitsValues doc) numbers 0 (paragraphs_in texts) meaning (of_files asked.kind texts meaning mean) in
    let same = paragraphs_written written (runs-from_fitting doc written (latest_in asked meaning) fit) in
    let long : length (paragraphs_of text) ≡ length (latest_in asked meaning) =
    pairwise-length HaveTheLines written (paragraphs_of text) same ∙ sym (pairwise-length (FitsValues doc) written (latest_in asked meaning) fit) in
    ap (λ ps. written_after false (chosen (latest_of asked (latest_in asked meaning)) ps)) (append-nil (paragraphs_of text))
    ∙ ap (written_after false) (all_chosen asked meaning (paragraphs_of text) long)
    ∙ written-same false written (paragraphs_of text) same
