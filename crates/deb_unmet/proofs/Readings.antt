-- Which verdicts the readings of a group give.
use Rattle.std.proofs.Common.{◌≡◌, Bool, true, false, not, cond, ◌&&◌, ◌||◌, List, [], ◌∷◌, map, refl, sym, ap, ◌∙◌, subst}
use Rattle.std.proofs.lemmas.Bool.{false≢true}
use Rattle.std.specs.List.{list_any}
use Rattle.deb_relation.specs.Applying.{Environment}
use Rattle.deb_relation.specs.Meaning.{Group}
use Rattle.deb_index.specs.Listed.{Listed}
use Rattle.deb_index.specs.declared.verdict.Verdict.TheVariants.{Ignored, Met, Unmet}
use Rattle.deb_unmet.specs.GroupReadings.{SomeReading, is_group_reading, some_applies, some_met}
use Rattle.deb_unmet.specs.Laws.{IsOther, IsUnmet, ReadingsDecide}
use Rattle.deb_unmet.specs.Readings.{applies_by, is_reading, may, surely}
use Rattle.deb_unmet.specs.Troubles.{can_be_otherwise, can_be_unmet, is_met}
use Rattle.deb_unmet.specs.declared.applying.Applies.{Applies}
use Rattle.deb_unmet.specs.declared.applying.Applies.TheVariants.{Surely, Maybe, Never}

both : (a b : Bool) → (a && b) ≡ true → (a ≡ true) × (b ≡ true)
both true b h = (refl, h)
both false b h = absurd (false≢true h)

neither : (a b : Bool) → (a || b) ≡ false → (a ≡ false) × (b ≡ false)
neither true b h = absurd (false≢true (sym h))
neither false b h = (refl, h)

-- one alternative: whether it applies in some reading, and whether a package meets it
unmet-head : (x : Applies) (m : Bool) → (surely x && m) ≡ false → is_reading x (may x && not m) ≡ true
unmet-head Surely true h = absurd (false≢true (sym h))
unmet-head Surely false h = refl
unmet-head Maybe m h = refl
unmet-head Never m h = refl

unmet-met : (v m : Bool) → ((v && not m) && m) ≡ false
unmet-met true true = refl
unmet-met true false = refl
unmet-met false m = refl

may-head : (x : Applies) → is_reading x (may x) ≡ true
may-head Surely = refl
may-head Maybe = refl
may-head Never = refl

surely-head : (x : Applies) → is_reading x (surely x) ≡ true
surely-head Surely = refl
surely-head Maybe = refl
surely-head Never = refl

surely-read : (x : Applies) (applies m : Bool) → is_reading x applies ≡ true → (applies && m) ≡ false → (surely x && m) ≡ false
surely-read Surely true m is h = h
surely-read Surely false m is h = absurd (false≢true is)
surely-read Maybe applies m is h = refl
surely-read Never applies m is h = refl

never-read : (x : Applies) (applies : Bool) → is_reading x applies ≡ true → applies ≡ false → surely x ≡ false
never-read Surely applies is h = absurd (false≢true (sym h ∙ is))
never-read Maybe applies is h = refl
never-read Never applies is h = refl

may-read : (x : Applies) (applies : Bool) → is_reading x applies ≡ true → applies ≡ true → may x ≡ true
may-read Surely applies is h = refl
may-read Maybe applies is h = refl
may-read Never true is h = absurd (false≢true is)
may-read Never false is h = absurd (false≢true h)

abbrev some_surely_met : Environment → List Listed → Group → Bool
some_surely_met environment packages group = list_any (λ a. surely (applies_by environment a) && is_met environment packages a) group

abbrev some_other_may : Environment → List Listed → Group → Bool
some_other_may environment packages group = list_any (λ a. may (applies_by environment a) && not (is_met environment packages a)) group

abbrev some_met_may : Environment → List Listed → Group → Bool
some_met_may environment packages group = list_any (λ a. may (applies_by environment a) && is_met environment packages a) group

abbrev some_surely : Environment → Group → Bool
some_surely environment group = list_any (λ a. surely (applies_by environment a)) group

module _ (environment : Environment) (packages : List Listed) where
  -- a reading in which none of those that are met applies, and all others that may
  unmet-reading : (group : Group) → some_surely_met environment packages group ≡ false → is_group_reading environment group (map (λ a. may (applies_by environment a) && not (is_met environment packages a)) group) ≡ true
  unmet-reading [] h = refl
  unmet-reading (a ∷ group) h =
      let p = neither (surely (applies_by environment a) && is_met environment packages a) (some_surely_met environment packages group) h in
      rw (unmet-head (applies_by environment a) (is_met environment packages a) p.0, unmet-reading group p.1) refl

  unmet-some : (group : Group) → some_applies (map (λ a. may (applies_by environment a) && not (is_met environment packages a)) group) ≡ some_other_may environment packages group
  unmet-some [] = refl
  unmet-some (a ∷ group) = ap (λ b. (may (applies_by environment a) && not (is_met environment packages a)) || b) (unmet-some group)

  unmet-none : (group : Group) → some_met environment packages group (map (λ a. may (applies_by environment a) && not (is_met environment packages a)) group) ≡ false
  unmet-none [] = refl
  unmet-none (a ∷ group) = rw (unmet-met (may (applies_by environment a)) (is_met environment packages a), unmet-none group) refl

  pub unmet_reading : (group : Group) → can_be_unmet environment packages group ≡ true → SomeReading environment packages group IsUnmet
  unmet_reading group h =
      let p = both (not (some_surely_met environment packages group)) (some_other_may environment packages group) h in
      record {
        reading = map (λ a. may (applies_by environment a) && not (is_met environment packages a)) group;
        is = unmet-reading group (not-true (some_surely_met environment packages group) p.0);
        verdict = rw (unmet-some group, unmet-none group, p.1) refl;
      }
    where
      not-true : (b : Bool) → not b ≡ true → b ≡ false
      not-true true e = absurd (false≢true e)
      not-true false e = refl

  -- what follows of a reading in which none is met
  none-surely : (group : Group) (reading : List Bool) → is_group_reading environment group reading ≡ true → some_met environment packages group reading ≡ false → some_surely_met environment packages group ≡ false
  none-surely [] reading is h = refl
  none-surely (a ∷ group) [] is h = absurd (false≢true is)
  none-surely (a ∷ group) (applies ∷ reading) is h =
      let i = both (is_reading (applies_by environment a) applies) (is_group_reading environment group reading) is in
      let p = neither (applies && is_met environment packages a) (some_met environment packages group reading) h in
      rw (surely-read (applies_by environment a) applies (is_met environment packages a) i.0 p.0, none-surely group reading i.1 p.1) refl

  others-may : (group : Group) (reading : List Bool) → is_group_reading environment group reading ≡ true → some_met environment packages group reading ≡ false → some_applies reading ≡ true → some_other_may environment packages group ≡ true
  others-may [] [] is h some = absurd (false≢true some)
  others-may [] (applies ∷ reading) is h some = absurd (false≢true is)
  others-may (a ∷ group) [] is h some = absurd (false≢true is)
  others-may (a ∷ group) (true ∷ reading) is h some =
      let i = both (is_reading (applies_by environment a) true) (is_group_reading environment group reading) is in
      let p = neither (is_met environment packages a) (some_met environment packages group reading) h in
      rw (may-read (applies_by environment a) true i.0 refl, p.0) refl
  others-may (a ∷ group) (false ∷ reading) is h some =
      let i = both (is_reading (applies_by environment a) false) (is_group_reading environment group reading) is in
      or-true (may (applies_by environment a) && not (is_met environment packages a)) _ (others-may group reading i.1 h some)
    where
      or-true : (a b : Bool) → b ≡ true → (a || b) ≡ true
      or-true true b e = refl
      or-true false b e = e

  unmet-parts : (some met : Bool) → cond some (cond met Met Unmet) Ignored ≡ Unmet → (some ≡ true) × (met ≡ false)
  unmet-parts true true h = absurd (cc)
  unmet-parts true false h = (refl, refl)
  unmet-parts false met h = absurd (cc)

  pub read_unmet : (group : Group) → SomeReading environment packages group IsUnmet → can_be_unmet environment packages group ≡ true
  read_unmet group r =
      let p = unmet-parts (some_applies r.reading) (some_met environment packages group r.reading) r.verdict in
      rw (none-surely group r.reading r.is p.1, others-may group r.reading r.is p.1 p.0) refl

  -- readings in which all apply that may, and only those that surely do
  may-reading : (group : Group) → is_group_reading environment group (map (λ a. may (applies_by environment a)) group) ≡ true
  may-reading [] = refl
  may-reading (a ∷ group) = rw (may-head (applies_by environment a), may-reading group) refl

  may-met : (group : Group) → some_met environment packages group (map (λ a. may (applies_by environment a)) group) ≡ some_met_may environment packages group
  may-met [] = refl
  may-met (a ∷ group) = ap (λ b. (may (applies_by environment a) && is_met environment packages a) || b) (may-met group)

  surely-reading : (group : Group) → is_group_reading environment group (map (λ a. surely (applies_by environment a)) group) ≡ true
  surely-reading [] = refl
  surely-reading (a ∷ group) = rw (surely-head (applies_by environment a), surely-reading group) refl

  surely-some : (group : Group) → some_applies (map (λ a. surely (applies_by environment a)) group) ≡ some_surely environment group
  surely-some [] = refl
  surely-some (a ∷ group) = ap (λ b. surely (applies_by environment a) || b) (surely-some group)

  met-other : (some : Bool) → cond some (cond true Met Unmet) Ignored ≡ Unmet → ⊥
  met-other true h = cc
  met-other false h = cc

  ignored-other : (met : Bool) → cond false (cond met Met Unmet) Ignored ≡ Unmet → ⊥
  ignored-other met h = cc

  pub other_reading : (group : Group) → can_be_otherwise environment packages group ≡ true → SomeReading environment packages group IsOther
  other_reading group h = go (some_met_may environment packages group) refl (some_surely environment group) refl h
    where
      go : (m : Bool) → some_met_may environment packages group ≡ m → (s : Bool) → some_surely environment group ≡ s → (m || not s) ≡ true → SomeReading environment packages group IsOther
      go true m s is either = record {
        reading = map (λ a. may (applies_by environment a)) group;
        is = may-reading group;
        verdict = subst (λ met. cond (some_applies (map (λ a. may (applies_by environment a)) group)) (cond met Met Unmet) Ignored ≡ Unmet → ⊥) (sym (may-met group ∙ m)) (met-other (some_applies (map (λ a. may (applies_by environment a)) group)));
      }
      go false m true is either = absurd (false≢true either)
      go false m false is either = record {
        reading = map (λ a. surely (applies_by environment a)) group;
        is = surely-reading group;
        verdict = subst (λ some. cond some (cond (some_met environment packages group (map (λ a. surely (applies_by environment a)) group)) Met Unmet) Ignored ≡ Unmet → ⊥) (sym (surely-some group ∙ is)) (ignored-other (some_met environment packages group (map (λ a. surely (applies_by environment a)) group)));
      }

  none-applies : (group : Group) (reading : List Bool) → is_group_reading environment group reading ≡ true → some_applies reading ≡ false → some_surely environment group ≡ false
  none-applies [] reading is h = refl
  none-applies (a ∷ group) [] is h = absurd (false≢true is)
  none-applies (a ∷ group) (applies ∷ reading) is h =
      let i = both (is_reading (applies_by environment a) applies) (is_group_reading environment group reading) is in
      let p = neither applies (some_applies reading) h in
      rw (never-read (applies_by environment a) applies i.0 p.0, none-applies group reading i.1 p.1) refl

  met-may : (group : Group) (reading : List Bool) → is_group_reading environment group reading ≡ true → some_met environment packages group reading ≡ true → some_met_may environment packages group ≡ true
  met-may [] reading is h = h
  met-may (a ∷ group) [] is h = absurd (false≢true is)
  met-may (a ∷ group) (applies ∷ reading) is h =
      let i = both (is_reading (applies_by environment a) applies) (is_group_reading environment group reading) is in
      go (applies && is_met environment packages a) refl i.0 h (met-may group reading i.1)
    where
      last : (x y : Bool) → y ≡ true → (x || y) ≡ true
      last true y e = refl
      last false y e = e

      go : (b : Bool) → (applies && is_met environment packages a) ≡ b → is_reading (applies_by environment a) applies ≡ true → (b || some_met environment packages group reading) ≡ true → (some_met environment packages group reading ≡ true → some_met_may environment packages group ≡ true) → some_met_may environment packages (a ∷ group) ≡ true
      go true e is h rest =
          let p = both applies (is_met environment packages a) e in
          rw (may-read (applies_by environment a) applies is p.0, p.1) refl
      go false e is h rest = last (may (applies_by environment a) && is_met environment packages a) (some_met_may environment packages group) (rest h)

  pub read_other : (group : Group) → SomeReading environment packages group IsOther → can_be_otherwise environment packages group ≡ true
  read_other group r = go (some_applies r.reading) refl (some_met environment packages group r.reading) refl r.verdict
    where
      last : (x y : Bool) → y ≡ false → (x || not y) ≡ true
      last true y e = refl
      last false true e = absurd (false≢true (sym e))
      last false false e = refl

      go : (some : Bool) → some_applies r.reading ≡ some → (met : Bool) → some_met environment packages group r.reading ≡ met → (cond some (cond met Met Unmet) Ignored ≡ Unmet → ⊥) → can_be_otherwise environment packages group ≡ true
      go some is true met other = rw (met-may group r.reading r.is met) refl
      go true is false met other = absurd (other refl)
      go false is false met other = last (some_met_may environment packages group) (some_surely environment group) (none-applies group r.reading r.is is)

pub readings_decide : ReadingsDecide
readings_decide = record { unmet = unmet_reading; is_unmet = read_unmet; other = other_reading; is_other = read_other }
