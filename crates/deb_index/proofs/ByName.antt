-- The numbers of the packages that meet an alternative by name and bound.
use Rattle.std.proofs.Common.{◌≡◌, ℕ, ◌-◌, ◌≤◌, if◌then◌else◌, slice_get, Bool, true, false, cond, ◌&&◌, eqb, List, [], ◌∷◌, length, None, refl, ap, ◌∙◌}
use Rattle.std.specs.List.{AllByRecursion, filter}
use Rattle.std.specs.Option.{option_map_or}
use Rattle.std.proofs.lemmas.Bool.{false≢true}
use Rattle.std.proofs.lemmas.List.Elements.{recursion_from_All}
use Rattle.deb_relation.specs.Applying.{Environment}
use Rattle.deb_relation.specs.Meaning.{Alternative}
use Rattle.deb_index.specs.Crowds.{AreMeeting}
use Rattle.deb_index.specs.Listed.{Listed}
use Rattle.deb_index.specs.Meeting.{meets, meets_by_name, meets_qualifier}
use Rattle.deb_index.specs.Named.{among, numbers_of, package_at, passes_at}
use Rattle.deb_index.specs.Why.{has_or_provides}
use Rattle.deb_index.proofs.Joined.{numbers-same}
use Rattle.deb_index.proofs.Meetings.{named_or_provided}
use Rattle.deb_index.proofs.Numbered.{from-one, numbered-among}
use Rattle.deb_index.proofs.Picked.{filtered, numbers-listed}

-- those of the offers that meet it
pub meeting-among : (a : Alternative) (packages : List Listed) (numbers : List ℕ) → AreMeeting a packages numbers → (k : ℕ) → among k numbers ≡ among k (numbers_of (meets_by_name a) packages)
meeting-among a packages numbers meeting k = meeting (eqb k) ∙ numbered-among k (meets_by_name a) 1 packages

filter-alike : {X : Type 0} (P : X → Type 0) (f g : X → Bool) → ((x : X) → P x → f x ≡ g x) → (xs : List X) → AllByRecursion P xs → filter f xs ≡ filter g xs
filter-alike P f g same [] all = refl
filter-alike P f g same (x ∷ xs) all = ap (λ l. cond (f x) (x ∷ l) l) (filter-alike P f g same xs all.1) ∙ ap (λ v. cond v (x ∷ filter g xs) (filter g xs)) (same x all.0)

both-is : (v test : Bool) → (test ≡ true → v ≡ true) → (v && test) ≡ test
both-is true test wider = refl
both-is false true wider = absurd (false≢true (wider refl))
both-is false false wider = refl

-- the package of a number passes a test
abbrev pub passing_at : (Listed → Bool) → List Listed → ℕ → Bool
passing_at test packages k = option_map_or test (package_at k packages) false

-- Of the packages that pass a wider test, those that pass this one.
pub kept-of : (wider test : Listed → Bool) (packages : List Listed) → ((p : Listed) → test p ≡ true → wider p ≡ true) → filter (passing_at test packages) (numbers_of wider packages) ≡ numbers_of test packages
kept-of wider test packages is =
    filter-alike (λ k. (1 ≤ k) × (k ≤ length packages)) (passing_at test packages) (passes_at test packages)
    (λ k listed. ap (λ b. option_map_or test (if b then None else slice_get packages (k - 1)) false) (from-one k listed.0))
    (numbers_of wider packages) (recursion_from_All (λ k. (1 ≤ k) × (k ≤ length packages)) (numbers_of wider packages) (numbers-listed wider packages))
    ∙ filtered wider test packages
    ∙ numbers-same 1 (λ p. wider p && test p) test (λ p. both-is (wider p) (test p) (is p)) packages

-- those of the packages under its name that meet it by name
pub retained : (a : Alternative) (packages : List Listed) (name : List ℕ) → name ≡ a.name → filter (passing_at (meets_by_name a) packages) (numbers_of (has_or_provides name) packages) ≡ numbers_of (meets_by_name a) packages
retained a packages name is =
    ap (λ l. filter (passing_at (meets_by_name a) packages) (numbers_of (has_or_provides l) packages)) is
    ∙ kept-of (has_or_provides a.name) (meets_by_name a) packages (λ p. named_or_provided a p)

-- of these, those that it meets by qualifier too
by-name-first : (named fits : Bool) → (named && fits) ≡ true → named ≡ true
by-name-first true fits both = refl
by-name-first false fits both = both

pub retained-meeting : (environment : Environment) (a : Alternative) (packages : List Listed) → filter (passing_at (meets environment a) packages) (numbers_of (meets_by_name a) packages) ≡ numbers_of (meets environment a) packages
retained-meeting environment a packages =
    kept-of (meets_by_name a) (meets environment a) packages (λ p. by-name-first (meets_by_name a p) (meets_qualifier environment a.qualifier p))
