-- A package that is added outside a set changes nothing for the set.
use Rattle.std.proofs.Common.{◌≡◌, ℕ, suc, ◌+◌, ◌-◌, ◌<◌, ◌≤◌, ltb, Bool, true, false, cond, ◌&&◌, List, [], ◌∷◌, ◌++◌, length, map, codes, refl, sym, ap, ◌∙◌, arith}
use Rattle.std.proofs.lemmas.Bool.{le-ltb, lt-ltb, ltb-false, ltb-true}
use Rattle.std.specs.List.{filter}
use Rattle.std.proofs.lemmas.List.{length-append, map-append}
use Rattle.std.proofs.lemmas.List.Elements.{filter-append}
use Rattle.deb_field.specs.Values.{ValueMeaning}
use Rattle.deb_control.specs.Documents.{Meaning}
use Rattle.deb_control.specs.FieldWords.{word_under}
use Rattle.deb_control.specs.ValueFiles.{ValueEntries}
use Rattle.deb_install.specs.Installable.{is_healthy_in}
use Rattle.deb_install.specs.Laws.{AddingKeepsInstallable, moved}
use Rattle.deb_install.specs.Members.{members_from, members_of}
use Rattle.deb_install.specs.Terms.{Terms, essential_names, has_each, has_none, is_allowed, is_essential}
use Rattle.deb_install.proofs.Sets.{members-same, members-shifted}

members-append : {X : Type 0} (set : ℕ → Bool) (n : ℕ) (xs ys : List X) → members_from set n (xs ++ ys) ≡ members_from set n xs ++ members_from set (n + length xs) ys
members-append set n [] ys =
    let here : n ≡ n + 0 = omega arith in
    ap (λ k. members_from set k ys) here
members-append set n (x ∷ xs) ys =
    let there : (n + 1) + length xs ≡ n + suc (length xs) = omega arith in
    ap (λ l. cond (set n) (x ∷ l) l) (members-append set (n + 1) xs ys ∙ ap (λ k. members_from set (n + 1) xs ++ members_from set k ys) there)
    ∙ put (set n) x (members_from set (n + 1) xs) (members_from set (n + suc (length xs)) ys)
  where
    put : {Y : Type 0} (v : Bool) (y : Y) (front rest : List Y) → cond v (y ∷ (front ++ rest)) (front ++ rest) ≡ cond v (y ∷ front) front ++ rest
    put true y front rest = refl
    put false y front rest = refl

-- the set once a package is added after so many, which isn't in it
abbrev without_added : ℕ → (ℕ → Bool) → ℕ → Bool
without_added before set number =
    cond (ltb before number) (ltb (before + 1) number && set (number - 1)) (set number)

earlier-same : (before : ℕ) (set : ℕ → Bool) (number : ℕ) → number ≤ before → without_added before set number ≡ set number
earlier-same before set number most = ap (λ v. cond v (ltb (before + 1) number && set (number - 1)) (set number)) (le-ltb before number most)

later-same : (before : ℕ) (set : ℕ → Bool) (number other : ℕ) → before < number → other ≡ number + 1 → without_added before set other ≡ set number
later-same before set number other less is =
    let first : before < other = omega (arith, less, is) in
    let second : before + 1 < other = omega (arith, less, is) in
    let back : other - 1 ≡ number = omega (arith, is) in
    ap (λ v. cond v (ltb (before + 1) other && set (other - 1)) (set other)) (lt-ltb before other first)
    ∙ ap (λ v. v && set (other - 1)) (lt-ltb (before + 1) other second)
    ∙ ap set back

added-out : (before : ℕ) (set : ℕ → Bool) (number : ℕ) → number ≡ 1 + before → without_added before set number ≡ false
added-out before set number is =
    let first : before < number = omega (arith, is) in
    let most : number ≤ before + 1 = omega (arith, is) in
    ap (λ v. cond v (ltb (before + 1) number && set (number - 1)) (set number)) (lt-ltb before number first)
    ∙ ap (λ v. v && set (number - 1)) (le-ltb (before + 1) number most)

members-added : {X : Type 0} (before : ℕ) (set : ℕ → Bool) (xs ys : List X) (x : X) → length xs ≡ before → members_of (without_added before set) (xs ++ x ∷ ys) ≡ members_of set (xs ++ ys)
members-added before set xs ys x long =
    let other = without_added before set in
    let place = 1 + length xs in
    let out : other place ≡ false = (let is : place ≡ 1 + before = ap (λ k. 1 + k) long in added-out before set place is) in
    let front = members-same other set 1 xs (λ i within.
    let most : 1 + i ≤ before = omega (arith, within, long) in
    earlier-same before set (1 + i) most) in
    let rest = members-shifted other set (place + 1) place ys (λ i within.
    let less : before < place + i = omega (arith, long) in
    let next : (place + 1) + i ≡ (place + i) + 1 = omega arith in
    later-same before set (place + i) ((place + 1) + i) less next) in
    members-append other 1 xs (x ∷ ys)
    ∙ ap (λ v. members_from other 1 xs ++ cond v (x ∷ members_from other (place + 1) ys) (members_from other (place + 1) ys)) out
    ∙ (λ i. front i ++ rest i)
    ∙ sym (members-append set 1 xs ys)

module _ (before : ℕ) (set : ℕ → Bool) (number : ℕ) where
  moved-contained : set number ≡ true → without_added before set (moved before number) ≡ true
  moved-contained is = go (ltb before number) refl
    where
      go : (v : Bool) → ltb before number ≡ v → without_added before set (cond v (number + 1) number) ≡ true
      go true e = later-same before set number (number + 1) (ltb-true before number e) refl ∙ is
      go false e = earlier-same before set number (ltb-false before number e) ∙ is

  moved-listed : (count after : ℕ) → (1 ≤ number) × (number ≤ count) → after ≡ count + 1 → (1 ≤ moved before number) × (moved before number ≤ after)
  moved-listed count after within more = go (ltb before number)
    where
      go : (v : Bool) → (1 ≤ cond v (number + 1) number) × (cond v (number + 1) number ≤ after)
      go true = (omega arith, omega (arith, within.1, more))
      go false = (within.0, omega (arith, within.1, more))

-- the essential names once a package is added that is none
names-append : (t : Terms) (target : List ℕ) (xs ys : Meaning) → essential_names t target (xs ++ ys) ≡ essential_names t target xs ++ essential_names t target ys
names-append t target xs ys = go t.essential
  where
    name : ValueEntries ValueMeaning → List ℕ
    name = word_under (codes "Package")

    test : ValueEntries ValueMeaning → Bool
    test = is_essential t.without target

    go : (v : Bool) → cond v (map name (filter test (xs ++ ys))) [] ≡ cond v (map name (filter test xs)) [] ++ cond v (map name (filter test ys)) []
    go true = ap (map name) (filter-append test xs ys) ∙ map-append name (filter test xs) (filter test ys)
    go false = refl

names-added : (t : Terms) (target : List ℕ) (earlier later : Meaning) (values : ValueEntries ValueMeaning) → essential_names t target (values ∷ []) ≡ [] → essential_names t target (earlier ++ values ∷ later) ≡ essential_names t target (earlier ++ later)
names-added t target earlier later values nothing =
    names-append t target earlier (values ∷ later)
    ∙ ap (λ names. essential_names t target earlier ++ names) (names-append t target (values ∷ []) later ∙ ap (λ names. names ++ essential_names t target later) nothing)
    ∙ sym (names-append t target earlier later)

pub adding : AddingKeepsInstallable
adding readings t environment before after earlier later p values number long nothing installable =
    let b = length before in
    let set = installable.set in
    let same = members-added b set before after p refl in
    let alike = members-added b set earlier later values long in
    let one : length (before ++ after) ≡ b + length after = length-append before after in
    let more : length (before ++ p ∷ after) ≡ b + suc (length after) = length-append before (p ∷ after) in
    let grown : length (before ++ p ∷ after) ≡ length (before ++ after) + 1 = omega (arith, one, more) in
    record {
      set = without_added b set;
      contains = moved-contained b set number installable.contains;
      listed = moved-listed b set number (length (before ++ after)) (length (before ++ p ∷ after)) installable.listed grown;
      healthy =
          (λ i. is_allowed t environment.native (earlier ++ values ∷ later) (same i) && is_healthy_in readings t.strength environment (same i) (alike i))
          ∙ ap (λ names. (has_none t.without (members_of set (before ++ after)) && has_each names (members_of set (before ++ after))) && is_healthy_in readings t.strength environment (members_of set (before ++ after)) (members_of set (earlier ++ later)))
          (names-added t environment.native earlier later values nothing)
          ∙ installable.healthy;
    }
