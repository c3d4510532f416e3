-- A group whose lists are read in one way.
use Rattle.std.proofs.Common.{◌≡◌, ℕ, Bool, true, false, ◌&&◌, ◌||◌, List, [], ◌∷◌, Option, None, Some, refl, sym, ap, ◌∙◌, subst}
use Rattle.std.proofs.lemmas.Bool.{false≢true}
use Rattle.std.proofs.lemmas.Slice.Eq.{bytes_eq-Decides}
use Rattle.std.specs.Str.{bytes_eq}
use Rattle.deb_relation.specs.Applying.{Environment}
use Rattle.deb_relation.specs.Meaning.{Group}
use Rattle.deb_index.specs.Listed.{Listed}
use Rattle.deb_index.specs.Reports.{group_verdict}
use Rattle.deb_index.specs.declared.verdict.Verdict.{Verdict}
use Rattle.deb_index.specs.declared.verdict.Verdict.TheVariants.{Ignored, Met, Unmet}
use Rattle.deb_unmet.specs.GroupReadings.{IsMeaning, is_group_reading, verdict_by}
use Rattle.deb_unmet.specs.Laws.{DecidedAsQueried, IsOther, is_undecided, some_undecided, unmet_alone}
use Rattle.deb_unmet.specs.Readings.{applies_by, is_reading}
use Rattle.deb_unmet.specs.Troubles.{trouble}
use Rattle.deb_unmet.specs.declared.applying.Applies.{Applies}
use Rattle.deb_unmet.specs.declared.applying.Applies.TheVariants.{Surely, Maybe, Never}
use Rattle.deb_unmet.specs.declared.trouble.Trouble.{Trouble}
use Rattle.deb_unmet.specs.declared.trouble.Trouble.TheVariants as troubles
use Rattle.deb_unmet.proofs.Meanings.{lines_are_sound, lines_say_readings, query_reads_names}

both : (a b : Bool) → (a && b) ≡ true → (a ≡ true) × (b ≡ true)
both true b h = (refl, h)
both false b h = absurd (false≢true h)

neither : (a b : Bool) → (a || b) ≡ false → (a ≡ false) × (b ≡ false)
neither true b h = absurd (false≢true (sym h))
neither false b h = (refl, h)

-- an alternative that is read in one way has one reading, and so does a group of such
one : (x : Applies) (a b : Bool) → is_undecided x ≡ false → is_reading x a ≡ true → is_reading x b ≡ true → a ≡ b
one Surely a b decided is also = is ∙ sym also
one Maybe a b decided is also = absurd (false≢true (sym decided))
one Never true b decided is also = absurd (false≢true is)
one Never false true decided is also = absurd (false≢true also)
one Never false false decided is also = refl

one-reading : (environment : Environment) (group : Group) (reading other : List Bool) → some_undecided environment group ≡ false → is_group_reading environment group reading ≡ true → is_group_reading environment group other ≡ true → reading ≡ other
one-reading environment [] [] [] decided is also = refl
one-reading environment [] [] (b ∷ other) decided is also = absurd (false≢true also)
one-reading environment [] (a ∷ reading) other decided is also = absurd (false≢true is)
one-reading environment (x ∷ group) [] other decided is also = absurd (false≢true is)
one-reading environment (x ∷ group) (a ∷ reading) [] decided is also = absurd (false≢true also)
one-reading environment (x ∷ group) (a ∷ reading) (b ∷ other) decided is also =
    let d = neither (is_undecided (applies_by environment x)) (some_undecided environment group) decided in
    let i = both (is_reading (applies_by environment x) a) (is_group_reading environment group reading) is in
    let j = both (is_reading (applies_by environment x) b) (is_group_reading environment group other) also in
    ap (λ first. first ∷ reading) (one (applies_by environment x) a b d.0 i.0 j.0) ∙ ap (λ rest. b ∷ rest) (one-reading environment group reading other d.1 i.1 j.1)

never-unsure : (environment : Environment) (packages : List Listed) (group : Group) → some_undecided environment group ≡ false → trouble environment packages group ≡ Some troubles.Unsure → ⊥
never-unsure environment packages group decided unsure =
    let p = lines_say_readings.unsure environment packages group unsure in
    let same = one-reading environment group p.0.reading p.1.reading decided p.0.is p.1.is in
    p.1.verdict (ap (verdict_by environment packages group) (sym same) ∙ p.0.verdict)

own-meaning : (target : List ℕ) → IsMeaning target (λ name. bytes_eq name target)
own-meaning target = record { own = (bytes_eq-Decides target target).1 refl; closed = λ name closed. refl }

not-unmet : (v : Verdict) → IsOther v → None ≡ unmet_alone v
not-unmet Ignored other = refl
not-unmet Met other = refl
not-unmet Unmet other = absurd (other refl)

pub decided_as_queried : DecidedAsQueried
decided_as_queried environment packages group decided = go (trouble environment packages group) refl
  where
    go : (t : Option Trouble) → trouble environment packages group ≡ t → trouble environment packages group ≡ unmet_alone (group_verdict environment packages group)
    go None is = is ∙ not-unmet (group_verdict environment packages group) (subst IsOther (sym (query_reads_names environment packages group)) (lines_are_sound.none environment packages group (λ name. bytes_eq name environment.target) (own-meaning environment.target) is))
    go (Some troubles.Unmet) is = is ∙ sym (ap unmet_alone (query_reads_names environment packages group ∙ lines_are_sound.unmet environment packages group (λ name. bytes_eq name environment.target) (own-meaning environment.target) is))
    go (Some troubles.Unsure) is = absurd (never-unsure environment packages group decided is)
