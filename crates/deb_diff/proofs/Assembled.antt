-- All lines are those of the difference.
use Rattle.std.proofs.Common.{◌≡◌, ◌↔◌, ◌==◌, IsTrue, ℕ, ◌+◌, Bool, true, false, List, [], ◌∷◌, ◌++◌, length, map, Some, refl, sym, ap, ◌∙◌, subst, arith, suc, cond}
use Rattle.std.specs.List.{AllByRecursion, flat_map, slice_get}
use Rattle.std.specs.Option.{is_none}
use Rattle.std.specs.Str.{bytes_eq}
use Rattle.std.proofs.lemmas.Bool.{false≢true}
use Rattle.std.proofs.lemmas.Bool.Decides.{nat_tests}
use Rattle.std.proofs.lemmas.List.{append_assoc, length_push}
use Rattle.deb_base.specs.Faults.{MatchFault}
use Rattle.deb_base.specs.declared.doc.Doc.{Doc}
use Rattle.deb_base.specs.declared.fault.Fault.{Fault}
use Rattle.deb_base.specs.declared.fault.Fault.TheVariants.{Refused, Memory, Read as ReadFailed, Write}
use Rattle.deb_syntax.specs.Meaning.{Entries}
use Rattle.deb_field.specs.Values.{value_text}
use Rattle.deb_control.specs.Documents.{Meaning}
use Rattle.deb_control.specs.Pairs.{Pairwise}
use Rattle.deb_control.specs.ValueFiles.{body_under}
use Rattle.deb_control.proofs.Entries.{IsAscending, IsEntry}
use Rattle.deb_diff.specs.Cuts.{AreAscending, AreCut, IsCut}
use Rattle.deb_diff.specs.Differences.{Fate, difference_by_place, difference_of_others, fates, place}
use Rattle.deb_diff.specs.Fates.{AreFated, IsAt, IsWhole}
use Rattle.deb_diff.specs.Items.{Item, items_from, items_of, release, whole}
use Rattle.deb_diff.specs.Both.{ReadsBoth}
use Rattle.deb_diff.specs.Kinds.{doc_of}
use Rattle.deb_diff.specs.declared.sides.Read.{Read}
use Rattle.deb_diff.specs.Kepts.{AreKept, IsKept}
use Rattle.deb_diff.specs.Lines.{added_text, diff_text, difference_text, fate_text}
use Rattle.deb_diff.specs.Pairing.{all_but, without, without_keys}
use Rattle.deb_diff.specs.Pairings.{PairsByRelease, PairsByPlace}
use Rattle.deb_diff.specs.Partners.{partners_of}
use Rattle.deb_diff.specs.Pools.{pick}
use Rattle.deb_diff.specs.Walks.{all_of, left_after_all}
use Rattle.deb_diff.specs.declared.form.Form.{Form}
use Rattle.deb_diff.specs.declared.kept.Kept.{Kept}
use Rattle.deb_diff.specs.declared.kind.Kind.{Kind}
use Rattle.deb_diff.specs.declared.pairing.Outcome.{Outcome}
use Rattle.deb_diff.specs.declared.pairing.Partners.{Partners}
use Rattle.deb_diff.proofs.Boths.{pick-all}
use Rattle.deb_diff.proofs.Linked.{AllAt, fated, left_added, left_after_keys, left_unpaired}
use Rattle.deb_diff.proofs.Pairs.{unpaired, unpaired-left}
use Rattle.deb_diff.proofs.Permuted.{AreSpelled, all_spelled}

-- a canonical text can be cut into its fields
each_cut : (entries : Entries) → AllByRecursion IsEntry entries → AllByRecursion IsCut entries
each_cut [] each = tt
each_cut (entry ∷ entries) each = (record { name = each.0.name; shape = each.0.shape }, each_cut entries each.1)

ascending_cut : (entries : Entries) → IsAscending entries → AreAscending entries
ascending_cut [] ascending = tt
ascending_cut (entry ∷ entries) ascending = (ascending.0, ascending_cut entries ascending.1)

abbrev pub CanBeCut : Item → Type 0
CanBeCut item = AreCut item.bodies

pub all_cut : (doc : Doc) (kind : Kind) (text : List ℕ) (n : ℕ) (meaning : Meaning) → AllByRecursion (AreSpelled doc) meaning → AllByRecursion CanBeCut (items_from kind text n meaning)
all_cut doc kind text n [] are = tt
all_cut doc kind text n (values ∷ meaning) are =
    (record { each = each_cut (map (body_under value_text) values) are.0.entries.each; ascending = ascending_cut (map (body_under value_text) values) are.0.entries.ascending }, all_cut doc kind text (n + 1) meaning are.1)

-- and those that are left can be too
cut_all_but : (key : Item → List ℕ) (wanted : List ℕ) (items : List Item) → AllByRecursion CanBeCut items → AllByRecursion CanBeCut (all_but key wanted items)
cut_all_but key wanted [] all = tt
cut_all_but key wanted (x ∷ items) all = go (bytes_eq (key x) wanted) (cut_all_but key wanted items all.1)
  where
    go : (b : Bool) → AllByRecursion CanBeCut (all_but key wanted items) → AllByRecursion CanBeCut (cond b items (x ∷ all_but key wanted items))
    go true h = all.1
    go false h = (all.0, h)

pub cut_without : (key : Item → List ℕ) (items others : List Item) → AllByRecursion CanBeCut items → AllByRecursion CanBeCut (without key items others)
cut_without key items [] all = all
cut_without key items (y ∷ others) all = cut_without key (all_but key (key y) items) others (cut_all_but key (key y) items all)

pub whole-kept : (kept : List Kept) (items : List Item) → AreKept kept items → AllByRecursion CanBeCut items → Pairwise IsWhole kept items
whole-kept [] [] are all = tt
whole-kept [] (item ∷ items) are all = absurd are
whole-kept (k ∷ kept) [] are all = absurd are
whole-kept (k ∷ kept) (item ∷ items) are all = (record { is_kept = are.0; cut = all.0 }, whole-kept kept items are.1 all.1)

pub kept-whole : (kept : List Kept) (items : List Item) → Pairwise IsWhole kept items → AreKept kept items
kept-whole [] [] are = tt
kept-whole [] (item ∷ items) are = absurd are
kept-whole (k ∷ kept) [] are = absurd are
kept-whole (k ∷ kept) (item ∷ items) are = (are.0.is_kept, kept-whole kept items are.1)

-- those that wait
pub pick-whole : (R : Kept → Item → Type 0) (n : ℕ) (kept : List Kept) (items : List Item) (flags : List Bool) → Pairwise R kept items → Pairwise R (map (λ e. e.1) (pick n kept flags)) (map (λ e. e.1) (pick n items flags))
pick-whole R n [] [] flags are = tt
pick-whole R n [] (item ∷ items) flags are = absurd are
pick-whole R n (k ∷ kept) [] flags are = absurd are
pick-whole R n (k ∷ kept) (item ∷ items) [] are = tt
pick-whole R n (k ∷ kept) (item ∷ items) (true ∷ flags) are = (are.0, pick-whole R (n + 1) kept items flags are.1)
pick-whole R n (k ∷ kept) (item ∷ items) (false ∷ flags) are = pick-whole R (n + 1) kept items flags are.1

found_at : (before kept : List Kept) (k : Kept) → slice_get (before ++ k ∷ kept) (length before) ≡ Some k
found_at [] kept k = refl
found_at (b ∷ before) kept k = found_at before kept k

at_one : (new : List Kept) (n : ℕ) (item : Item) (more : List (ℕ × Item)) (b : Bool) → IsAt new n item → AllAt new more → AllAt new (cond b ((n, item) ∷ more) more)
at_one new n item more true is h = (is, h)
at_one new n item more false is h = h

at_from : (before kept : List Kept) (items : List Item) (flags : List Bool) → Pairwise IsWhole kept items → AllAt (before ++ kept) (pick (length before) items flags)
at_from before [] [] flags are = tt
at_from before [] (item ∷ items) flags are = absurd are
at_from before (k ∷ kept) [] flags are = absurd are
at_from before (k ∷ kept) (item ∷ items) [] are = tt
at_from before (k ∷ kept) (item ∷ items) (b ∷ flags) are =
    at_one (before ++ k ∷ kept) (length before) item (pick (length before + 1) items flags) b (record { kept = k; found = found_at before kept k; whole = are.0 })
    (subst (λ l. AllAt l (pick (length before + 1) items flags)) (append_assoc before (k ∷ []) kept)
    (subst (λ n. AllAt ((before ++ k ∷ []) ++ kept) (pick n items flags)) (length_push before k) (at_from (before ++ k ∷ []) kept items flags are.1)))

all_at : (kept : List Kept) (items : List Item) (flags : List Bool) → Pairwise IsWhole kept items → AllAt kept (pick 0 items flags)
all_at kept items flags are = at_from [] kept items flags are

-- the lines of old paragraphs, then those of added ones
pub all_text : (form : Form) (new kept added : List Kept) (items others : List Item) (partners : Partners) (outcome : Outcome) (mid out : List ℕ) → Pairwise IsWhole kept items → Pairwise IsWhole new others
    → PairsByRelease items others partners → PairsByPlace items others partners.found.items partners.waits.items outcome → added ≡ map (λ e. e.1) (pick 0 new outcome.waits.items)
    → ((all : List (Item × Fate)) → AreFated kept outcome.became.items new all → mid ≡ flat_map (fate_text form) all) → ((all : List Item) → AreKept added all → out ≡ mid ++ flat_map (added_text form) all)
    → out ≡ difference_text form (difference_of_others items others)
all_text form new kept added items others partners outcome mid out are are_new by_release by_place added_is mid_is out_is =
    out_is (map (λ e. e.1) (pick 0 others outcome.waits.items)) (subst (λ l. AreKept l (map (λ e. e.1) (pick 0 others outcome.waits.items))) (sym added_is) (pick-whole IsKept 0 new others outcome.waits.items (kept-whole new others are_new)))
    ∙ ap (λ l. l ++ flat_map (added_text form) (map (λ e. e.1) (pick 0 others outcome.waits.items))) (mid_is (fates own new_place items others (map (λ e. e.1) near)) are_fated)
    ∙ ap (λ l. flat_map (fate_text form) (fates own new_place items others (map (λ e. e.1) near)) ++ flat_map (added_text form) l) added_items
    ∙ ap (λ l. difference_text form (difference_by_place items others l (map (λ e. e.1) near))) old_left
    ∙ ap (λ l. difference_text form (difference_by_place items others (without release items others) l)) left
  where
    same : List (ℕ × Item)
    same = pick 0 others by_release.flags

    near : List (ℕ × Item)
    near = pick 0 others partners.waits.items

    waiting : List Item
    waiting = map (λ e. e.1) (pick 0 items (map is_none partners.found.items))

    own : Item → List ℕ
    own = place waiting

    new_place : Item → List ℕ
    new_place = place (map (λ e. e.1) near)

    all : map (λ e. e.1) same ≡ others
    all = pick-all 0 others by_release.flags by_release.length_is by_release.all

    left : map (λ e. e.1) near ≡ without release others items
    left = ap (map (λ e. e.1)) by_release.left ∙ left_after_keys items same ∙ ap (λ l. without release l items) all

    waiting_unpaired : waiting ≡ unpaired release items (map (λ e. e.1) same)
    waiting_unpaired = ap (λ f. map (λ e. e.1) (pick 0 items (map is_none f))) by_release.found ∙ left_unpaired 0 items same

    old_left : waiting ≡ without release items others
    old_left = waiting_unpaired ∙ unpaired-left release items (map (λ e. e.1) same) ∙ ap (without release items) all

    made : outcome.became.items ≡ all_of new_place (partners_of release (map release items) same) (map own items) near
    made = by_place.became ∙ ap (λ f. all_of new_place f (map own items) near) by_release.found

    are_fated : AreFated kept outcome.became.items new (fates own new_place items others (map (λ e. e.1) near))
    are_fated =
        subst (λ b. AreFated kept b new (fates own new_place items others (map (λ e. e.1) near))) (sym made)
        (subst (λ l. AreFated kept (all_of new_place (partners_of release (map release items) same) (map own items) near) new (fates own new_place items l (map (λ e. e.1) near))) all
        (fated own new_place new kept items same near are (all_at new others by_release.flags are_new) (all_at new others partners.waits.items are_new)))

    added_items : map (λ e. e.1) (pick 0 others outcome.waits.items) ≡ without_keys new_place (map (λ e. e.1) near) (map own waiting)
    added_items =
        ap (map (λ e. e.1)) (by_place.left ∙ ap (λ f. left_after_all new_place f (map own items) near) by_release.found)
        ∙ left_added own new_place items same near
        ∙ ap (λ l. without_keys new_place (map (λ e. e.1) near) (map own l)) (sym waiting_unpaired)

-- which are all lines of the two files
pub both_text : (kind : Kind) (form : Form) (text other : List ℕ) (read : Read) (lines : List ℕ) (both : ReadsBoth kind text other read)
    → ((items added : List Item) → Pairwise IsWhole read.old.items items → Pairwise IsWhole read.others.new.items added → lines ≡ difference_text form (difference_of_others (map (λ e. e.1) (pick 0 items read.others.waits.items)) added))
    → lines ≡ diff_text kind form text other both.old_meaning both.new.meaning
both_text kind form text other read lines both is =
    let old = items_of kind text both.old_meaning in
    let new = items_of kind other both.new.meaning in
    let cut = all_cut (doc_of kind) kind text 0 both.old_meaning (all_spelled (doc_of kind) text both.old_meaning both.accepted.means) in
    let cut_new = all_cut (doc_of kind) kind other 0 both.new.meaning (all_spelled (doc_of kind) other both.new.meaning both.new.accepted.means) in
    is old (without whole new old) (whole-kept read.old.items old both.are_kept cut) (whole-kept read.others.new.items (without whole new old) both.new.are_kept (cut_without whole new old cut_new))
    ∙ ap (λ l. difference_text form (difference_of_others l (without whole new old))) both.new.left

some_length : (n : ℕ) → (suc n == 0) ≡ false
some_length n = grind (arith, nat_tests)

pub no_length : (bytes wanted : List ℕ) → bytes ≡ wanted → IsTrue (length bytes == 0) ↔ (wanted ≡ [])
no_length [] wanted is = (λ none. sym is, λ none. refl)
no_length (b ∷ bytes) wanted is = (λ none. absurd (false≢true (sym (some_length (length bytes)) ∙ none)), λ none. cc (is ∙ none))

-- what was written where a write failed
pub some_written : (fault : Fault) (P : Type 0) → P → MatchFault fault (λ _. Unit {0}) (Unit {0}) (Unit {0}) P
some_written (Refused refusal) P p = tt
some_written Memory P p = tt
some_written ReadFailed P p = tt
some_written Write P p = p
