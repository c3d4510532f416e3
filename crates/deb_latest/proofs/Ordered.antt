-- Which of two versions, and of two paragraphs of a package, comes first.
use Rattle.std.proofs.Common.{◌≡◌, ℕ, ◌<◌, ◌≤◌, Bool, true, false, ◌&&◌, ◌||◌, nat_lt, refl, sym, ap, ◌∙◌, arith}
use Rattle.std.proofs.lemmas.Bool.{false≢true}
use Rattle.std.specs.Ordering.{is_eq, is_gt, is_lt, ordering_reverse}
use Rattle.std.specs.declared.cmp.Ordering.{Ordering}
use Rattle.std.specs.declared.cmp.Ordering.TheVariants.{Less, Equal, Greater}
use Rattle.deb_version.specs.Order.{version_cmp}
use Rattle.deb_version.specs.OrderLemmas.{version_total}
use Rattle.deb_version.specs.Parts.{Meaning as Version}
use Rattle.deb_latest.specs.Winning.{Entry, is_better}

abbrev cmp : Entry → Entry → Ordering
cmp e f = version_cmp e.version f.version

pub reversed : (a b : Version) → version_cmp b a ≡ ordering_reverse (version_cmp a b)
reversed a b = version_total.antisymm b a

self_reverse : (r : Ordering) → r ≡ ordering_reverse r → r ≡ Equal
self_reverse Less h = absurd (false≢true (sym (ap is_lt h)))
self_reverse Equal h = refl
self_reverse Greater h = absurd (false≢true (sym (ap is_gt h)))

pub equals-itself : (a : Version) → version_cmp a a ≡ Equal
equals-itself a = self_reverse (version_cmp a a) (version_total.antisymm a a)

gt-is : (r : Ordering) → is_gt r ≡ true → r ≡ Greater
gt-is Less h = absurd (false≢true h)
gt-is Equal h = absurd (false≢true h)
gt-is Greater h = refl

-- a version that isn't later than one that is earlier than a third is earlier than the third
upto-less : (a b c : Version) (r : Ordering) → version_cmp a b ≡ r → is_gt r ≡ false → version_cmp b c ≡ Less → version_cmp a c ≡ Less
upto-less a b c Less is isnt less = version_total.trans a b c is less
upto-less a b c Equal is isnt less = version_total.congr a b c is ∙ less
upto-less a b c Greater is isnt less = absurd (false≢true (sym isnt))

better-parts : (r : Ordering) (t : Bool) → (is_gt r || (is_eq r && t)) ≡ false → is_gt r ≡ false
better-parts Less t h = refl
better-parts Equal t h = refl
better-parts Greater t h = absurd (false≢true (sym h))

pub not-gt : (e f : Entry) → is_better e f ≡ false → is_gt (cmp e f) ≡ false
not-gt e f h = better-parts (cmp e f) (nat_lt e.number f.number) h

-- what isn't better than one isn't better than a later one
pub not-better : (x b e : Entry) → is_better x b ≡ false → is_gt (cmp e b) ≡ true → is_better x e ≡ false
not-better x b e isnt later =
    let less : version_cmp b.version e.version ≡ Less = reversed e.version b.version ∙ ap ordering_reverse (gt-is (cmp e b) later) in
    ap (λ r. is_gt r || (is_eq r && nat_lt x.number e.number)) (upto-less x.version b.version e.version (cmp x b) refl (not-gt x b isnt) less)

lt-itself : (n : ℕ) → nat_lt n n ≡ false
lt-itself n = grind arith

pub not-itself : (e : Entry) → is_better e e ≡ false
not-itself e = ap (λ r. is_gt r || (is_eq r && nat_lt e.number e.number)) (equals-itself e.version) ∙ lt-itself e.number

lt-not : (m n : ℕ) → m < n → nat_lt n m ≡ false
lt-not m n h = grind (arith, h)

eq-and : (r : Ordering) (t : Bool) → is_gt r ≡ false → t ≡ false → (is_gt r || (is_eq r && t)) ≡ false
eq-and Less t isnt f = refl
eq-and Equal t isnt f = f
eq-and Greater t isnt f = isnt

-- a paragraph that comes later is better only if its version is later
pub later-number : (e b : Entry) → b.number < e.number → is_gt (cmp e b) ≡ false → is_better e b ≡ false
later-number e b below isnt = eq-and (cmp e b) (nat_lt e.number b.number) isnt (lt-not b.number e.number below)

upto : (m n : ℕ) → nat_lt m n ≡ false → n ≤ m
upto m n h = grind (arith, h)

-- of two paragraphs of which neither is better, the numbers are equal
one-number : (r s : Ordering) (m n : ℕ) → s ≡ ordering_reverse r → (is_gt r || (is_eq r && nat_lt m n)) ≡ false → (is_gt s || (is_eq s && nat_lt n m)) ≡ false → m ≡ n
one-number Less s m n is h k = absurd (false≢true (sym k ∙ ap (λ s. is_gt s || (is_eq s && nat_lt n m)) is))
one-number Equal s m n is h k = omega (arith, upto m n h, upto n m (ap (λ s. is_gt s || (is_eq s && nat_lt n m)) (sym is) ∙ k))
one-number Greater s m n is h k = absurd (false≢true (sym h))

pub same-number : (e f : Entry) → is_better e f ≡ false → is_better f e ≡ false → e.number ≡ f.number
same-number e f h k = one-number (cmp e f) (cmp f e) e.number f.number (reversed e.version f.version) h k
