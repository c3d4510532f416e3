-- Which tests are kept of a field, as conditions are added one after another.
use Rattle.std.proofs.Common.{◌≡◌, ℕ, zero, suc, Bool, true, false, cond, List, [], ◌∷◌, ◌++◌, map, set, refl, sym, ap, ◌∙◌, inl, inr}
use Rattle.std.proofs.lemmas.Bool.{cases_Bool, false≢true}
use Rattle.std.proofs.lemmas.List.{map-append}
use Rattle.std.proofs.lemmas.List.Elements.{filter-append}
use Rattle.std.proofs.lemmas.Slice.Eq.{bytes_eq-Decides}
use Rattle.std.specs.List.{AllByRecursion, position_or_len}
use Rattle.std.specs.Str.{bytes_eq}
use Rattle.deb_base.specs.Kinds.{known_fields, known_row}
use Rattle.deb_base.specs.Names.{folded}
use Rattle.deb_select.specs.Conditions.{ConditionMeaning}
use Rattle.deb_select.specs.Kept.{KeptTest, test_kept}
use Rattle.deb_select.specs.Selections.{asks_for, conditions_on, may_ask_for, tests_on}
use Rattle.deb_select.proofs.TestMaps.{same_bytes}

-- names that are equal without case are in one row
pub same_row : (a b : List ℕ) → folded a ≡ folded b → known_row a ≡ known_row b
unfolding known_row
same_row a b same = ap (λ name. position_or_len (λ row. bytes_eq (folded row.0) name) known_fields) same

-- where no condition may ask for a row, none asks for a field in it
pub none_asked : (rows : List Bool) (name : List ℕ) (row : ℕ) → row ≡ known_row name → may_ask_for rows row ≡ false → (conditions : List ConditionMeaning)
    → AllByRecursion (λ condition. may_ask_for rows (known_row condition.name) ≡ true) conditions → tests_on (folded name) conditions ≡ []
none_asked rows name row is none [] marked = refl
none_asked rows name row is none (condition ∷ conditions) marked = go (asks_for (folded name) condition) refl (none_asked rows name row is none conditions marked.1)
  where
    go : (asks : Bool) → asks_for (folded name) condition ≡ asks → tests_on (folded name) conditions ≡ [] → map (λ c. test_kept c.test) (cond asks (condition ∷ conditions_on (folded name) conditions) (conditions_on (folded name) conditions)) ≡ []
    go true e rest =
        let same : known_row name ≡ known_row condition.name = same_row name condition.name ((bytes_eq-Decides (folded name) (folded condition.name)).0 e) in
        absurd (false≢true (sym none ∙ ap (may_ask_for rows) (is ∙ same) ∙ marked.0))
    go false e rest = rest

-- what one more condition adds
pub tests_on-push : (name : List ℕ) (conditions : List ConditionMeaning) (added : ConditionMeaning) → tests_on name (conditions ++ added ∷ []) ≡ tests_on name conditions ++ cond (asks_for name added) (test_kept added.test ∷ []) []
tests_on-push name conditions added =
    ap (map (λ c. test_kept c.test)) (filter-append (asks_for name) conditions (added ∷ []))
    ∙ map-append (λ c. test_kept c.test) (conditions_on name conditions) (conditions_on name (added ∷ []))
    ∙ ap (λ l. tests_on name conditions ++ l) (go (asks_for name added))
  where
    go : (asks : Bool) → map (λ c. test_kept c.test) (cond asks (added ∷ []) []) ≡ cond asks (test_kept added.test ∷ []) []
    go true = refl
    go false = refl

nothing : {X : Type 0} (xs : List X) → xs ++ [] ≡ xs
nothing [] = refl
nothing (x ∷ xs) = ap (λ l. x ∷ l) (nothing xs)

pub tests_added : (conditions : List ConditionMeaning) (added : ConditionMeaning) (key : List ℕ) (test : KeptTest) (before after : List ℕ → List KeptTest) → key ≡ folded added.name → test ≡ test_kept added.test
    → ((name : List ℕ) → before name ≡ tests_on name conditions) → ((name : List ℕ) → after name ≡ cond (bytes_eq key name) (before key ++ test ∷ []) (before name))
    → (name : List ℕ) → after name ≡ tests_on name (conditions ++ added ∷ [])
tests_added conditions added key test before after is_key is_test had puts name =
    elim (cases_Bool (bytes_eq key name)) [
      | inl equal ↦
          let same : key ≡ name = (bytes_eq-Decides key name).0 equal in
          puts name ∙ ap (λ t. cond t (before key ++ test ∷ []) (before name)) equal
          ∙ ap (λ l. l ++ test ∷ []) (had key) ∙ ap (λ n. tests_on n conditions ++ test ∷ []) same
          ∙ ap (λ t. tests_on name conditions ++ t ∷ []) is_test
          ∙ ap (λ asks. tests_on name conditions ++ cond asks (test_kept added.test ∷ []) []) (sym (ap (bytes_eq name) (sym is_key) ∙ same_bytes name key ∙ equal))
          ∙ sym (tests_on-push name conditions added)
      | inr apart ↦
          puts name ∙ ap (λ t. cond t (before key ++ test ∷ []) (before name)) apart ∙ had name
          ∙ sym (nothing (tests_on name conditions))
          ∙ ap (λ asks. tests_on name conditions ++ cond asks (test_kept added.test ∷ []) []) (sym (ap (bytes_eq name) (sym is_key) ∙ same_bytes name key ∙ apart))
          ∙ sym (tests_on-push name conditions added)
    ]

-- rows that are marked stay so
marked-same : (rows : List Bool) (row : ℕ) → may_ask_for (set rows row true) row ≡ true
marked-same [] zero = refl
marked-same [] (suc row) = refl
marked-same (r ∷ rows) zero = refl
marked-same (r ∷ rows) (suc row) = marked-same rows row

marked-still : (rows : List Bool) (row other : ℕ) → may_ask_for rows other ≡ true → may_ask_for (set rows row true) other ≡ true
marked-still [] zero other is = is
marked-still [] (suc row) other is = is
marked-still (r ∷ rows) zero zero is = refl
marked-still (r ∷ rows) zero (suc other) is = is
marked-still (r ∷ rows) (suc row) zero is = is
marked-still (r ∷ rows) (suc row) (suc other) is = marked-still rows row other is

pub rows_marked : (rows now : List Bool) (row : ℕ) (conditions : List ConditionMeaning) (added : ConditionMeaning) → now ≡ set rows row true → row ≡ known_row added.name
    → AllByRecursion (λ condition. may_ask_for rows (known_row condition.name) ≡ true) conditions → AllByRecursion (λ condition. may_ask_for now (known_row condition.name) ≡ true) (conditions ++ added ∷ [])
rows_marked rows now row [] added is at marked = (ap (λ l. may_ask_for l (known_row added.name)) is ∙ ap (may_ask_for (set rows row true)) (sym at) ∙ marked-same rows row, tt)
rows_marked rows now row (condition ∷ conditions) added is at marked = (ap (λ l. may_ask_for l (known_row condition.name)) is ∙ marked-still rows row (known_row condition.name) marked.0, rows_marked rows now row conditions added is at marked.1)

pub all-push : {X : Type 0} (P : X → Type 0) (xs : List X) (x : X) → AllByRecursion P xs → P x → AllByRecursion P (xs ++ x ∷ [])
all-push P [] x all one = (one, tt)
all-push P (y ∷ xs) x all one = (all.0, all-push P xs x all.1 one)
