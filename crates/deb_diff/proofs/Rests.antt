-- The fields of canonical texts by their texts after their names.
use Rattle.std.proofs.Common.{◌≡◌, ℕ, ◌==◌, Bool, true, false, cond, List, [], ◌∷◌, ◌++◌, length, map, drop, Some, refl, sym, ap, ◌∙◌, arith}
use Rattle.std.proofs.lemmas.Bool.{false≢true}
use Rattle.std.proofs.lemmas.List.{length-append}
use Rattle.std.specs.BTreeMap.{insert_entry}
use Rattle.std.specs.FinMap.{find}
use Rattle.std.specs.List.{AllByRecursion}
use Rattle.std.specs.Option.{option_map}
use Rattle.std.specs.Ordering.{eq_by_cmp, match_ordering}
use Rattle.std.specs.declared.cmp.Ordering.{Ordering}
use Rattle.std.specs.declared.cmp.Ordering.TheVariants.{Less, Equal, Greater}
use Rattle.deb_base.specs.Bodies.{newline}
use Rattle.deb_base.specs.FieldNames.{colon}
use Rattle.deb_syntax.specs.Meaning.{Entries, byte_order}
use Rattle.deb_control.specs.Canonical.{behind_colon}
use Rattle.deb_control.proofs.Entries.{greater_from_less}
use Rattle.deb_diff.specs.Cuts.{AreAscending, AreCut, rest_of}
use Rattle.deb_diff.specs.Fields.{fields_of_both}

-- a field's text after its name
abbrev pub tail : List ℕ → List ℕ
tail body = colon ∷ (behind_colon body ++ newline ∷ [])

insert_rest : (entries : Entries) (name body : List ℕ) → insert_entry byte_order (map rest_of entries) name (tail body) ≡ map rest_of (insert_entry byte_order entries name body)
insert_rest [] name body = refl
insert_rest (e ∷ entries) name body = go (byte_order name e.0) (insert_rest entries name body)
  where
    go : (o : Ordering) → insert_entry byte_order (map rest_of entries) name (tail body) ≡ map rest_of (insert_entry byte_order entries name body)
        → match_ordering o ((name, tail body) ∷ rest_of e ∷ map rest_of entries) ((e.0, tail body) ∷ map rest_of entries) (rest_of e ∷ insert_entry byte_order (map rest_of entries) name (tail body)) ≡ map rest_of (match_ordering o ((name, body) ∷ e ∷ entries) ((e.0, body) ∷ entries) (e ∷ insert_entry byte_order entries name body))
    go Less h = refl
    go Equal h = refl
    go Greater h = ap (λ l. rest_of e ∷ l) h

both_rests : (old new : Entries) → fields_of_both (map rest_of old) (map rest_of new) ≡ map rest_of (fields_of_both old new)
both_rests old [] = refl
both_rests old (field ∷ new) = ap (λ l. fields_of_both l (map rest_of new)) (insert_rest old field.0 field.1) ∙ both_rests (insert_entry byte_order old field.0 field.1) new

pub find_rests : (name : List ℕ) (entries : Entries) → find byte_order name (map rest_of entries) ≡ option_map tail (find byte_order name entries)
find_rests name [] = refl
find_rests name (e ∷ entries) = go (eq_by_cmp byte_order name e.0) (find_rests name entries)
  where
    go : (b : Bool) → find byte_order name (map rest_of entries) ≡ option_map tail (find byte_order name entries) → cond b (Some (tail e.1)) (find byte_order name (map rest_of entries)) ≡ option_map tail (cond b (Some e.1) (find byte_order name entries))
    go true h = refl
    go false h = h

cancel : (xs ys : List ℕ) (z : ℕ) → xs ++ z ∷ [] ≡ ys ++ z ∷ [] → xs ≡ ys
cancel [] [] z e = refl
cancel [] (y ∷ ys) z e = absurd (omega (arith, ap length e, length-append ys (z ∷ [])))
cancel (x ∷ xs) [] z e = absurd (omega (arith, ap length e, length-append xs (z ∷ [])))
cancel (x ∷ xs) (y ∷ ys) z e =
    let first : x ≡ y = cc e in
    ap (λ a. a ∷ xs) first ∙ ap (λ l. y ∷ l) (cancel xs ys z (ap (drop 1) e))

behind_tells : (a b : List ℕ) → behind_colon a ≡ behind_colon b → a ≡ b
behind_tells [] [] e = refl
behind_tells [] (c ∷ cs) e = go (c == newline) e
  where
    go : (t : Bool) → [] ≡ cond t (c ∷ cs) (32 ∷ c ∷ cs) → [] ≡ c ∷ cs
    go true e = cc e
    go false e = cc e
behind_tells (b ∷ bs) [] e = go (b == newline) e
  where
    go : (t : Bool) → cond t (b ∷ bs) (32 ∷ b ∷ bs) ≡ [] → b ∷ bs ≡ []
    go true e = cc e
    go false e = cc e
behind_tells (b ∷ bs) (c ∷ cs) e = go (b == newline) refl (c == newline) refl e
  where
    go : (s : Bool) → (b == newline) ≡ s → (t : Bool) → (c == newline) ≡ t → cond s (b ∷ bs) (32 ∷ b ∷ bs) ≡ cond t (c ∷ cs) (32 ∷ c ∷ cs) → b ∷ bs ≡ c ∷ cs
    go true is true also e = e
    go true is false also e =
        let first : b ≡ 32 = cc e in
        absurd (false≢true (ap (λ n. n == newline) (sym first) ∙ is))
    go false is true also e =
        let first : c ≡ 32 = cc e in
        absurd (false≢true (ap (λ n. n == newline) (sym first) ∙ also))
    go false is false also e = ap (drop 1) e

-- and what is after it tells its body
pub tail_tells : (a b : List ℕ) → tail a ≡ tail b → a ≡ b
tail_tells a b e = behind_tells a b (cancel (behind_colon a) (behind_colon b) newline (ap (drop 1) e))

-- a field whose name is below all of the others stays first
pub first_stays : (e : List ℕ × List ℕ) (old new : Entries) → AllByRecursion (λ other. byte_order e.0 other.0 ≡ Less) new → fields_of_both (e ∷ old) new ≡ e ∷ fields_of_both old new
first_stays e old [] less = refl
first_stays e old (other ∷ new) less = rw (greater_from_less e.0 other.0 less.0) (first_stays e (insert_entry byte_order old other.0 other.1) new less.1)

collected : (entries : Entries) → AreAscending entries → fields_of_both [] entries ≡ entries
collected [] ascending = refl
collected (e ∷ entries) ascending = first_stays e [] entries ascending.0 ∙ ap (λ l. e ∷ l) (collected entries ascending.1)

-- the fields of a canonical text
pub collected_rests : (entries : Entries) → AreCut entries → fields_of_both [] (map rest_of entries) ≡ map rest_of entries
collected_rests entries cut = both_rests [] entries ∙ ap (map rest_of) (collected entries cut.ascending)
