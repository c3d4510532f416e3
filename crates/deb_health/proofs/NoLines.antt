-- There is no line exactly if the set is healthy, and each package of the file is in it or removed.
use Rattle.std.proofs.Common.{◌≡◌, ℕ, ◌+◌, ◌<◌, ◌≤◌, ltb, Bool, true, false, cond, not, ◌&&◌, ◌||◌, is_none, List, [], ◌∷◌, ◌++◌, length, codes, append_assoc, refl, sym, ap, ◌∙◌, arith}
use Rattle.std.specs.List.{filter, flat_map, list_all, list_any}
use Rattle.std.specs.Option.{option_map_or}
use Rattle.std.proofs.lemmas.List.{length_push}
use Rattle.deb_relation.specs.Applying.{Environment}
use Rattle.deb_relation.specs.Meaning.{Alternative}
use Rattle.deb_relation.specs.Texts.{group_text}
use Rattle.deb_syntax.specs.Fields.{Field}
use Rattle.deb_field.specs.Values.{ValueMeaning}
use Rattle.deb_control.specs.Documents.{Meaning}
use Rattle.deb_control.specs.FieldWords.{groups_of, value_under, word_under}
use Rattle.deb_control.specs.Pairs.{Pairwise}
use Rattle.deb_control.specs.ValueFiles.{ValueEntries}
use Rattle.deb_index.specs.Listed.{Listed}
use Rattle.deb_index.specs.Listing.{Lists}
use Rattle.deb_index.specs.Installed.{is_member}
use Rattle.deb_index.specs.Members.{has_values}
use Rattle.deb_index.specs.declared.members.Members.{Members}
use Rattle.deb_index.specs.declared.members.Members.TheVariants.{All, Installed}
use Rattle.deb_index.specs.Named.{numbers_from, numbers_of}
use Rattle.deb_index.specs.Reports.{Numbered}
use Rattle.deb_index.proofs.Numbered.{at-front}
use Rattle.deb_unmet.specs.Asked.{fields_with}
use Rattle.deb_unmet.specs.Fields.{environment_for, heading, paragraph_lines}
use Rattle.deb_unmet.specs.Files.{Asks, is_nothing, lines_of}
use Rattle.deb_unmet.specs.Own.{OwnAsks, asks_over, other_line, parts_from}
use Rattle.deb_unmet.specs.Readings.{applies_by, may}
use Rattle.deb_unmet.specs.Scopes.{plain}
use Rattle.deb_unmet.specs.Spelled.{fields_after}
use Rattle.deb_unmet.specs.Troubles.{group_lines as needed_lines, trouble}
use Rattle.deb_unmet.specs.declared.applying.Applies.{Applies}
use Rattle.deb_unmet.specs.declared.applying.Applies.TheVariants.{Surely, Maybe, Never}
use Rattle.deb_unmet.specs.declared.asked.Asked.TheVariants.{Packages}
use Rattle.deb_unmet.specs.declared.asked.Strength.{Strength}
use Rattle.deb_unmet.proofs.Groups.{nothing-group}
use Rattle.deb_health.specs.Excluding.{excludes}
use Rattle.deb_health.specs.Health.{are_apart, asks_healthy, is_abundant, is_healthy, is_peaceful}
use Rattle.deb_health.specs.Laws.{NoLineIfHealthy}
use Rattle.deb_health.specs.Lines.{alternative_lines, duplicate_line, duplicate_lines, exclusion_front, exclusion_line, exclusion_lines, group_lines, line_at, negative_fields}
use Rattle.deb_health.specs.States.{are_settled, is_removed, state_text, state_words, status_word}
use Rattle.deb_health.specs.Together.{rules_out}

pub nothing-both : (xs ys : List ℕ) → is_nothing (xs ++ ys) ≡ (is_nothing xs && is_nothing ys)
nothing-both [] ys = refl
nothing-both (x ∷ xs) ys = refl

pub nothing-flat : {X : Type 0} (f : X → List ℕ) (good : X → Bool) → ((x : X) → is_nothing (f x) ≡ good x) → (xs : List X) → is_nothing (flat_map f xs) ≡ list_all good xs
nothing-flat f good each [] = refl
nothing-flat f good each (x ∷ xs) =
    nothing-both (f x) (flat_map f xs)
    ∙ ap (λ v. v && is_nothing (flat_map f xs)) (each x)
    ∙ ap (λ v. good x && v) (nothing-flat f good each xs)

-- lines of the packages that pass a test
module _ (line : Numbered → List ℕ) (some : (p : Numbered) → is_nothing (line p) ≡ false) where
  nothing-cond : (v : Bool) (k : ℕ) (ks : List ℕ) (packages : List Listed) (p : Listed) → is_nothing (line_at line packages k) ≡ false → is_nothing (flat_map (line_at line packages) (cond v (k ∷ ks) ks)) ≡ (not v && is_nothing (flat_map (line_at line packages) ks))
  nothing-cond true k ks packages p none = nothing-both (line_at line packages k) (flat_map (line_at line packages) ks) ∙ ap (λ v. v && is_nothing (flat_map (line_at line packages) ks)) none
  nothing-cond false k ks packages p none = refl

  not-or : (v u : Bool) → (not v && not u) ≡ not (v || u)
  not-or true u = refl
  not-or false u = refl

  pub nothing-from : (test : Listed → Bool) (front rest : List Listed) (n : ℕ) → n ≡ length front + 1 → is_nothing (flat_map (line_at line (front ++ rest)) (numbers_from n test rest)) ≡ not (list_any test rest)
  nothing-from test front [] n is = refl
  nothing-from test front (p ∷ rest) n is =
      let all = front ++ p ∷ rest in
      let long = length_push front p in
      nothing-cond (test p) n (numbers_from (n + 1) test rest) all p (ap (λ o. is_nothing (option_map_or (λ q. line (n, q)) o [])) (at-front front p rest n is) ∙ some (n, p))
      ∙ ap (λ l. not (test p) && is_nothing (flat_map (line_at line l) (numbers_from (n + 1) test rest))) (sym (append_assoc front (p ∷ []) rest))
      ∙ ap (λ v. not (test p) && v) (nothing-from test (front ++ p ∷ []) rest (n + 1) (omega (arith, is, long)))
      ∙ not-or (test p) (list_any test rest)

  pub nothing-all : (test : Listed → Bool) (packages : List Listed) → is_nothing (flat_map (line_at line packages) (numbers_of test packages)) ≡ not (list_any test packages)
  nothing-all test packages = nothing-from test [] packages 1 refl

-- numbers that come later than one
below : (a b : ℕ) → a < b → ltb a b ≡ true
below a b less = grind (arith, less)

not-below : (a b : ℕ) → b ≤ a → ltb a b ≡ false
not-below a b most = grind (arith, most)

keep-cond : (f : ℕ → Bool) (v : Bool) (k : ℕ) (ks : List ℕ) → f k ≡ true → filter f ks ≡ ks → filter f (cond v (k ∷ ks) ks) ≡ cond v (k ∷ ks) ks
keep-cond f true k ks is rest = ap (λ b. cond b (k ∷ filter f ks) (filter f ks)) is ∙ ap (λ l. k ∷ l) rest
keep-cond f false k ks is rest = rest

drop-cond : (f : ℕ → Bool) (v : Bool) (k : ℕ) (ks : List ℕ) → f k ≡ false → filter f (cond v (k ∷ ks) ks) ≡ filter f ks
drop-cond f true k ks is = ap (λ b. cond b (k ∷ filter f ks) (filter f ks)) is
drop-cond f false k ks is = refl

kept-from : (test : Listed → Bool) (more : List Listed) (m b : ℕ) → b < m → filter (λ k. ltb b k) (numbers_from m test more) ≡ numbers_from m test more
kept-from test [] m b less = refl
kept-from test (p ∷ more) m b less = keep-cond (λ k. ltb b k) (test p) m (numbers_from (m + 1) test more) (below b m less) (kept-from test more (m + 1) b (omega (arith, less)))

pub later-from : (test : Listed → Bool) (front more : List Listed) (p : Listed) (m b : ℕ) → b ≡ m + length front → filter (λ k. ltb b k) (numbers_from m test (front ++ p ∷ more)) ≡ numbers_from (b + 1) test more
later-from test [] more p m b is =
    drop-cond (λ k. ltb b k) (test p) m (numbers_from (m + 1) test more) (not-below b m (omega (arith, is)))
    ∙ kept-from test more (m + 1) b (omega (arith, is))
    ∙ ap (λ k. numbers_from k test more) (omega (arith, is))
later-from test (q ∷ front) more p m b is =
    drop-cond (λ k. ltb b k) (test q) m (numbers_from (m + 1) test (front ++ p ∷ more)) (not-below b m (omega (arith, is)))
    ∙ later-from test front more p (m + 1) b (omega (arith, is))

-- no line of groups
nothing-alternative : (applies : Applies) (test : Listed → Bool) (packages : List Listed) (heading field text : List ℕ) → is_nothing (cond (may applies) (flat_map (line_at (exclusion_line (exclusion_front applies heading field text)) packages) (numbers_of test packages)) []) ≡ not (may applies && list_any test packages)
nothing-alternative Surely test packages heading field text = nothing-all (exclusion_line (exclusion_front Surely heading field text)) (λ p. refl) test packages
nothing-alternative Maybe test packages heading field text = nothing-all (exclusion_line (exclusion_front Maybe heading field text)) (λ p. refl) test packages
nothing-alternative Never test packages heading field text = refl

regroup : (a b d more rest : Bool) → ((a && (b && d)) && (more && rest)) ≡ (((a && b) && more) && (d && rest))
regroup false b d more rest = refl
regroup true false d more rest = refl
regroup true true false true rest = refl
regroup true true false false rest = refl
regroup true true true more rest = refl

-- the lines of the other paragraphs come before the rest, or among it
among : (a settled more : Bool) → (a && (settled && more)) ≡ (settled && (a && more))
among true settled more = refl
among false true more = refl
among false false more = refl

between : (a settled more : Bool) → (a && (settled && more)) ≡ ((a && settled) && more)
between true settled more = refl
between false settled more = refl

-- a package that isn't removed has a line
nothing-state : (number : ℕ) (values : ValueEntries ValueMeaning) → is_nothing (other_line number (state_text values)) ≡ is_removed (status_word values)
nothing-state number values = go (is_removed (status_word values))
  where
    go : (t : Bool) → is_nothing (other_line number (cond t [] (state_words values))) ≡ t
    go true = refl
    go false = refl

-- the paragraph is of a member, or of a package that is removed
abbrev pub is_known : Members → ValueEntries ValueMeaning → Bool
is_known members values = has_values members values || is_removed (status_word values)

pub settled-known : (members : Members) (meaning : Meaning) → are_settled members meaning ≡ list_all (is_known members) meaning
settled-known All [] = refl
settled-known All (values ∷ meaning) = settled-known All meaning
settled-known Installed [] = refl
settled-known Installed (values ∷ meaning) = ap (λ b. b && are_settled Installed meaning) (go (is_member values) (is_removed (status_word values))) ∙ ap (λ b. is_known Installed values && b) (settled-known Installed meaning)
  where
    go : (member removed : Bool) → not (not member && not removed) ≡ (member || removed)
    go true removed = refl
    go false true = refl
    go false false = refl

module _ (members : Members) (strength : Strength) (environment : Environment) (packages : List Listed) (text : List ℕ) where
  abbrev own : OwnAsks
  own = asks_healthy members strength environment

  abbrev asks : Asks
  asks = asks_over own packages

  nothing-needs : (number : ℕ) (version : List ℕ) (values : ValueEntries ValueMeaning) → is_nothing (paragraph_lines (Packages strength) environment (plain packages) number version values) ≡ is_abundant strength environment packages values
  nothing-needs number version values =
      let e = environment_for (Packages strength) environment values in
      let h = heading (Packages strength) number version values in
      nothing-flat (λ field. flat_map (needed_lines e (plain packages) Surely h field) (groups_of (value_under field values))) (λ field. list_all (λ group. is_none (trouble e packages group)) (groups_of (value_under field values)))
      (λ field. nothing-flat (needed_lines e (plain packages) Surely h field) (λ group. is_none (trouble e packages group)) (λ group. nothing-group e packages h field group) (groups_of (value_under field values))) (fields_with strength)

  nothing-excludes : (h : List ℕ) (values : ValueEntries ValueMeaning) → is_nothing (exclusion_lines (environment_for (Packages strength) environment values) environment.native packages h values) ≡ is_peaceful strength environment packages values
  nothing-excludes h values =
      let e = environment_for (Packages strength) environment values in
      let n = word_under (codes "Package") values in
      let good : Alternative → Bool = λ a. not (may (applies_by e a) && list_any (excludes environment.native n a) packages) in
      nothing-flat (λ field. flat_map (group_lines e environment.native packages n h field) (groups_of (value_under field values))) (λ field. list_all (λ group. list_all good group) (groups_of (value_under field values)))
      (λ field. nothing-flat (group_lines e environment.native packages n h field) (λ group. list_all good group)
      (λ group. nothing-flat (alternative_lines e environment.native packages n h field (group_text group)) good (λ a. nothing-alternative (applies_by e a) (excludes environment.native n a) packages h field (group_text group)) group)
      (groups_of (value_under field values))) negative_fields

  nothing-repeats : (h : List ℕ) (front more : List Listed) (p : Listed) (n : ℕ) → n ≡ length front → packages ≡ front ++ p ∷ more → is_nothing (duplicate_lines environment.native packages h (n + 1)) ≡ not (list_any (rules_out environment.native p) more)
  nothing-repeats h front more p n is all =
      let target = environment.native in
      let long = length_push front p in
      ap (λ l. is_nothing (duplicate_lines target l h (n + 1))) all
      ∙ ap (λ o. is_nothing (option_map_or (λ q. flat_map (line_at (duplicate_line h) (front ++ p ∷ more)) (filter (λ k. ltb (n + 1) k) (numbers_of (rules_out target q) (front ++ p ∷ more)))) o [])) (at-front front p more (n + 1) (omega (arith, is)))
      ∙ ap (λ ks. is_nothing (flat_map (line_at (duplicate_line h) (front ++ p ∷ more)) ks)) (later-from (rules_out target p) front more p 1 (n + 1) (omega (arith, is)))
      ∙ ap (λ l. is_nothing (flat_map (line_at (duplicate_line h) l) (numbers_from (n + 1 + 1) (rules_out target p) more))) (sym (append_assoc front (p ∷ []) more))
      ∙ nothing-from (duplicate_line h) (λ q. refl) (rules_out target p) (front ++ p ∷ []) more (n + 1 + 1) (omega (arith, is, long))

  abbrev good : ValueEntries ValueMeaning → Bool
  good values = is_abundant strength environment packages values && is_peaceful strength environment packages values

  -- no line of a member, and none after them
  nothing-member : (front more : List Listed) (p : Listed) (n : ℕ) (values : ValueEntries ValueMeaning) (lines : List ℕ) (settled rest : Bool) → n ≡ length front → packages ≡ front ++ p ∷ more → is_nothing lines ≡ (settled && (rest && are_apart environment.native more)) → (fields : List Field) → is_nothing (lines_of asks (n + 1) fields values ++ lines) ≡ (settled && ((good values && rest) && are_apart environment.native (p ∷ more)))
  nothing-member front more p n values lines settled rest is all later fields =
      let v = word_under (codes "Version") values in
      let h = heading (Packages strength) (n + 1) v values in
      let needs = paragraph_lines (Packages strength) environment (plain packages) (n + 1) v values in
      let others = exclusion_lines (environment_for (Packages strength) environment values) environment.native packages h values in
      let repeats = duplicate_lines environment.native packages h (n + 1) in
      let abundant = is_abundant strength environment packages values in
      let peaceful = is_peaceful strength environment packages values in
      let alone = not (list_any (rules_out environment.native p) more) in
      nothing-both (needs ++ (others ++ repeats)) lines
      ∙ ap (λ b. b && is_nothing lines) (nothing-both needs (others ++ repeats) ∙ ap (λ b. is_nothing needs && b) (nothing-both others repeats))
      ∙ ap (λ b. (b && (is_nothing others && is_nothing repeats)) && is_nothing lines) (nothing-needs (n + 1) v values)
      ∙ ap (λ b. (abundant && (b && is_nothing repeats)) && is_nothing lines) (nothing-excludes h values)
      ∙ ap (λ b. (abundant && (peaceful && b)) && is_nothing lines) (nothing-repeats h front more p n is all)
      ∙ ap (λ b. (abundant && (peaceful && alone)) && b) later
      ∙ among (abundant && (peaceful && alone)) settled (rest && are_apart environment.native more)
      ∙ ap (λ b. settled && b) (regroup abundant peaceful alone rest (are_apart environment.native more))

  -- there is no line of the paragraphs that are left
  abbrev IsNoneLeft : Meaning → Type 0
  IsNoneLeft meaning = (front rest : List Listed) (n k : ℕ) → k ≡ length front → packages ≡ front ++ rest → Pairwise Lists (filter (has_values members) meaning) rest → is_nothing (parts_from own packages text n k meaning) ≡ (list_all (is_known members) meaning && (list_all good (filter (has_values members) meaning) && are_apart environment.native rest))

  nothing-rest : (meaning : Meaning) → IsNoneLeft meaning
  nothing-rest [] front [] n k is all lists = refl
  nothing-rest [] front (p ∷ rest) n k is all lists = absurd lists
  nothing-rest (values ∷ meaning) front rest n k is all lists = go (has_values members values) rest all lists (nothing-rest meaning)
    where
      go : (t : Bool) (rest : List Listed) → packages ≡ front ++ rest → Pairwise Lists (cond t (values ∷ filter (has_values members) meaning) (filter (has_values members) meaning)) rest → IsNoneLeft meaning
          → is_nothing (cond t (lines_of asks (k + 1) (fields_after text n) values) (other_line (n + 1) (state_text values)) ++ parts_from own packages text (n + 1) (cond t (k + 1) k) meaning)
          ≡ (((t || is_removed (status_word values)) && list_all (is_known members) meaning) && (list_all good (cond t (values ∷ filter (has_values members) meaning) (filter (has_values members) meaning)) && are_apart environment.native rest))
      go true [] all lists later = absurd lists
      go true (p ∷ more) all lists later =
          let long = length_push front p in
          nothing-member front more p k values (parts_from own packages text (n + 1) (k + 1) meaning) (list_all (is_known members) meaning) (list_all good (filter (has_values members) meaning)) is all
          (later (front ++ p ∷ []) more (n + 1) (k + 1) (omega (arith, is, long)) (all ∙ sym (append_assoc front (p ∷ []) more)) lists.1) (fields_after text n)
      go false rest all lists later =
          nothing-both (other_line (n + 1) (state_text values)) (parts_from own packages text (n + 1) k meaning)
          ∙ ap (λ b. b && is_nothing (parts_from own packages text (n + 1) k meaning)) (nothing-state (n + 1) values)
          ∙ ap (λ b. is_removed (status_word values) && b) (later front rest (n + 1) k is all lists)
          ∙ between (is_removed (status_word values)) (list_all (is_known members) meaning) (list_all good (filter (has_values members) meaning) && are_apart environment.native rest)

pub no_line : NoLineIfHealthy
no_line members strength environment text meaning packages lists =
    nothing-rest members strength environment packages text meaning [] packages 0 0 refl refl lists
    ∙ ap (λ b. b && is_healthy strength environment packages (filter (has_values members) meaning)) (sym (settled-known members meaning))
