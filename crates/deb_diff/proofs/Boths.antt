-- A pool of all paragraphs of a file, and of none.
use Rattle.std.proofs.Common.{◌≡◌, ℕ, ◌+◌, Bool, true, false, List, [], ◌∷◌, length, map, refl, ap, ◌∙◌, subst, arith, Result, Ok, Err, IfOk}
use Rattle.std.proofs.lemmas.List.{length-map}
use Rattle.std.specs.List.{list_all}
use Rattle.deb_diff.specs.Items.{Item, items_of, whole}
use Rattle.deb_diff.specs.Both.{ReadsAll, ReadsNew}
use Rattle.deb_diff.specs.Kepts.{AreKept}
use Rattle.deb_diff.specs.Pairing.{without}
use Rattle.deb_diff.specs.Pools.{pick}
use Rattle.deb_diff.specs.Sifting.{SiftsFile, items_in}
use Rattle.deb_diff.specs.declared.both.Others.{Others}
use Rattle.deb_diff.specs.declared.kept.Kept.{Kept}
use Rattle.deb_diff.specs.declared.kind.Kind.{Kind}
use Rattle.deb_diff.specs.declared.pool.Pool.{Pool}

pub if_ok : {T E : Type 0} {P Q : T → Type 0} → ((x : T) → P x → Q x) → (r : Result T E) → IfOk r P → IfOk r Q
if_ok next (Ok x) p = next x p
if_ok next (Err e) p = tt

-- all wait
pub pick-all : {X : Type 0} (n : ℕ) (xs : List X) (flags : List Bool) → length flags ≡ length xs → list_all (λ wait. wait) flags ≡ true → map (λ e. e.1) (pick n xs flags) ≡ xs
pick-all n [] flags same all = refl
pick-all n (x ∷ xs) [] same all = absurd (omega (arith, same))
pick-all n (x ∷ xs) (true ∷ flags) same all = ap (λ l. x ∷ l) (pick-all (n + 1) xs flags (omega (arith, same)) all)
pick-all n (x ∷ xs) (false ∷ flags) same all = cc all

-- the texts of paragraphs that are kept
pub texts-kept : (kept : List Kept) (items : List Item) → AreKept kept items → map (λ k. k.text.items) kept ≡ map whole items
texts-kept [] [] are = refl
texts-kept [] (item ∷ items) are = absurd are
texts-kept (k ∷ kept) [] are = absurd are
texts-kept (k ∷ kept) (item ∷ items) are = ap (λ t. t ∷ map (λ k. k.text.items) kept) are.0.text ∙ ap (λ l. whole item ∷ l) (texts-kept kept items are.1)

pub length-kept : (kept : List Kept) (items : List Item) → AreKept kept items → length kept ≡ length items
length-kept [] [] are = refl
length-kept [] (item ∷ items) are = absurd are
length-kept (k ∷ kept) [] are = absurd are
length-kept (k ∷ kept) (item ∷ items) are = omega (arith, length-kept kept items are.1)

-- nothing was taken from no paragraphs
pub reads_all : (kind : Kind) (text : List ℕ) (old new : Pool) (kept : List Kept) → SiftsFile kind text [] old new kept → ReadsAll kind text kept
reads_all kind text old new kept sifts = record { meaning = sifts.meaning; accepted = sifts.accepted; are_kept = sifts.are_kept }

pub reads_new : (kind : Kind) (text : List ℕ) (items : List Item) (old new : Pool) (others : Others) → length old.waits.items ≡ length items → list_all (λ wait. wait) old.waits.items ≡ true → others.waits.items ≡ new.waits.items → SiftsFile kind text items old new others.new.items → ReadsNew kind text items others
reads_new kind text items old new others same all waits sifts =
    let whole_old : items_in items old ≡ items = pick-all 0 items old.waits.items same all in
    record {
      meaning = sifts.meaning;
      accepted = sifts.accepted;
      length_is = ap length waits ∙ sifts.is_pool.length_is ∙ length-map items whole;
      left = ap (λ flags. map (λ e. e.1) (pick 0 items flags)) waits ∙ sifts.left ∙ ap (λ l. without whole l (items_of kind text sifts.meaning)) whole_old;
      are_kept = subst (λ l. AreKept others.new.items (without whole (items_of kind text sifts.meaning) l)) whole_old sifts.are_kept;
    }
