-- The lines of packages that Conflicts and Breaks exclude.
use Rattle.std.proofs.Common.{◌≡◌, ℕ, ◌+◌, ◌-◌, ◌<◌, ◌≤◌, Bool, true, false, cond, if◌then◌else◌, ◌&&◌, List, [], ◌∷◌, ◌++◌, length, take, get_or, None, refl, sym, ap, ◌∙◌, arith}
use Rattle.std.specs.List.{AllByRecursion, filter, flat_map, slice_get}
use Rattle.std.specs.Option.{option_map_or}
use Rattle.deb_relation.specs.Environments.{environment_of}
use Rattle.deb_relation.specs.Meaning.{Alternative, Group}
use Rattle.deb_index.specs.Indexes.{packages_of}
use Rattle.deb_index.specs.Listed.{Listed}
use Rattle.deb_index.specs.Named.{numbers_of, package_at, passes_at}
use Rattle.deb_index.proofs.Counted.{numbers-within}
use Rattle.deb_index.proofs.Numbered.{from-one}
use Rattle.deb_index.proofs.Picked.{filtered}
use Rattle.deb_index.proofs.TextPieces.{lines_more}
use Rattle.std.proofs.lemmas.List.{take_more}
use Rattle.deb_unmet.specs.Paragraphs.{heading_in}
use Rattle.deb_health.specs.Lines.{alternative_lines, group_lines}
use Rattle.deb_health.specs.declared.excluding.Negative.{Negative}

-- those of an alternative of a group with a text, and of a group
abbrev pub alternatives_of : Negative → List ℕ → Alternative → List ℕ
alternatives_of n text = alternative_lines (environment_of n.environment.now) n.target.now (packages_of n.index.now) n.paragraph.now.texts.now.name.now (heading_in n.paragraph.now) n.field.now text

abbrev pub groups_of : Negative → Group → List ℕ
groups_of n = group_lines (environment_of n.environment.now) n.target.now (packages_of n.index.now) n.paragraph.now.texts.now.name.now (heading_in n.paragraph.now) n.field.now

-- Of each number the line, if its package passes a test.
abbrev pub lines_if : (Listed → Bool) → List Listed → (ℕ → List ℕ) → ℕ → List ℕ
lines_if test packages line k = cond (option_map_or test (package_at k packages) false) (line k) []

pub numbered : (test : Listed → Bool) (packages : List Listed) (k : ℕ) → 1 ≤ k → option_map_or test (package_at k packages) false ≡ passes_at test packages k
numbered test packages k from = ap (λ b. option_map_or test (if b then None else slice_get packages (k - 1)) false) (from-one k from)

pub flat-cond : {X : Type 0} (f : X → List ℕ) (v : Bool) (x : X) (xs : List X) → cond v (f x) [] ++ flat_map f xs ≡ flat_map f (cond v (x ∷ xs) xs)
flat-cond f true x xs = refl
flat-cond f false x xs = refl

lines-filter : (test : Listed → Bool) (packages : List Listed) (line : ℕ → List ℕ) (n : ℕ) (ks : List ℕ) → AllByRecursion (λ k. (1 ≤ k) × (k < n)) ks → flat_map (lines_if test packages line) ks ≡ flat_map line (filter (passes_at test packages) ks)
lines-filter test packages line n [] all = refl
lines-filter test packages line n (k ∷ ks) all =
    ap (λ v. cond v (line k) [] ++ flat_map (lines_if test packages line) ks) (numbered test packages k all.0.0)
    ∙ ap (λ l. cond (passes_at test packages k) (line k) [] ++ l) (lines-filter test packages line n ks all.1)
    ∙ flat-cond line (passes_at test packages k) k (filter (passes_at test packages) ks)

-- they are those of the packages that pass both
pub lines-passing : (asked test : Listed → Bool) (packages : List Listed) (line : ℕ → List ℕ) → flat_map (lines_if test packages line) (numbers_of asked packages) ≡ flat_map line (numbers_of (λ p. asked p && test p) packages)
lines-passing asked test packages line =
    lines-filter test packages line (length packages + 1) (numbers_of asked packages) (numbers-within 1 1 (length packages + 1) asked packages (omega arith) (omega arith))
    ∙ ap (flat_map line) (filtered asked test packages)

-- the lines of one more of some numbers
pub one-more : (line : ℕ → List ℕ) (ks : List ℕ) (i d : ℕ) (start old new : List ℕ) → i < length ks → old ≡ start ++ flat_map line (take i ks) → new ≡ old ++ line (get_or ks i d) → new ≡ start ++ flat_map line (take (i + 1) ks)
one-more line ks i d start old new within so_far is =
    lines_more line (take i ks) (get_or ks i d) start old new so_far is
    ∙ ap (λ l. start ++ flat_map line l) (sym (take_more ks i d within))
