-- The fields of a paragraph that have been read so far.
use Rattle.deb_control.proofs.Common.{◌≡◌, ℕ, suc, ◌+◌, ◌<◌, ◌≤◌, inl, inr, None, Some, List, [], ◌∷◌, ◌++◌, length, map, drop, slice_get, option_map, add-one, append-nil, append_assoc, sym, ap, ◌∙◌, subst, arith, drop-cons, drop_all, map-append, slice_get_within, slice_get_cases, get_or_from_slice_get, AllByRecursion, Fault, Refused, Memory, Read, Write, Refusal, RefusedOrMemory, canonical_name, Field, field_of, RawField, Doc, value_refusal, rules_of, refusal_or, value_refusal_of, Visit, IsVisit}
use Rattle.deb_control.proofs.DocumentRules.{document_rules}

-- those before an index, with their values, where none is refused
pub record HasRead {X : Type 0} (visit_in : X → Visit) (doc : Doc) (fields : List Field) (items : List X) (i : ℕ) : Type 0 where
  pub read : map (λ x. (visit_in x).0) items ++ drop i fields ≡ fields
  pub good : AllByRecursion (λ x. IsVisit doc (visit_in x)) items
  pub refusal : value_refusal_of (rules_of doc) fields ≡ value_refusal_of (rules_of doc) (drop i fields)

-- the field at an index, and those after it
pub drop-at : (fields : List Field) (i : ℕ) (field : Field) → slice_get fields i ≡ Some field → drop i fields ≡ field ∷ drop (i + 1) fields
drop-at fields i field is =
    drop-cons fields i field (slice_get_within fields i field is)
    ∙ ap (λ first. first ∷ drop (suc i) fields) (get_or_from_slice_get fields i field field is)
    ∙ ap (λ n. field ∷ drop n fields) (sym (add-one i))

-- one more for which it holds
pub all-push : {X : Type 0} (P : X → Type 0) (xs : List X) (x : X) → AllByRecursion P xs → P x → AllByRecursion P (xs ++ x ∷ [])
all-push P [] x h p = (p, tt)
all-push P (y ∷ ys) x h p = (h.0, all-push P ys x h.1 p)

refusal-at : (doc : Doc) (fields : List Field) (i : ℕ) (field : Field) → slice_get fields i ≡ Some field → value_refusal_of (rules_of doc) (drop i fields) ≡ refusal_or (value_refusal doc (canonical_name field.name) field.body) field.line (value_refusal_of (rules_of doc) (drop (i + 1) fields))
refusal-at doc fields i field is = ap (value_refusal_of (rules_of doc)) (drop-at fields i field is)

-- a field whose body is not refused
refusal-past : (doc : Doc) (fields : List Field) (i : ℕ) (field : Field) → slice_get fields i ≡ Some field → value_refusal doc (canonical_name field.name) field.body ≡ None → value_refusal_of (rules_of doc) (drop i fields) ≡ value_refusal_of (rules_of doc) (drop (i + 1) fields)
refusal-past doc fields i field is good =
    refusal-at doc fields i field is
    ∙ ap (λ o. refusal_or o field.line (value_refusal_of (rules_of doc) (drop (i + 1) fields))) good

pub HasRead-next : {X : Type 0} (visit_in : X → Visit) (doc : Doc) (fields : List Field) (items new : List X) (i : ℕ) (raw : RawField) (x : X) → option_map field_of (Some raw) ≡ slice_get fields i → (visit_in x).0 ≡ field_of raw → IsVisit doc (visit_in x) → new ≡ items ++ x ∷ [] → HasRead visit_in doc fields items i → HasRead visit_in doc fields new (i + 1)
HasRead-next {X} visit_in doc fields items new i raw x is same good pushed before =
    let field_in : X → Field = λ y. (visit_in y).0 in
    let found : slice_get fields i ≡ Some (field_in x) = sym is ∙ ap Some (sym same) in
    record {
      read =
          ap (λ m. map field_in m ++ drop (i + 1) fields) pushed
          ∙ ap (λ m. m ++ drop (i + 1) fields) (map-append field_in items (x ∷ []))
          ∙ append_assoc (map field_in items) (field_in x ∷ []) (drop (i + 1) fields)
          ∙ ap (λ m. map field_in items ++ m) (sym (drop-at fields i (field_in x) found))
          ∙ before.read;
      good = subst (AllByRecursion (λ y. IsVisit doc (visit_in y))) (sym pushed) (all-push (λ y. IsVisit doc (visit_in y)) items x before.good good);
      refusal = before.refusal ∙ refusal-past doc fields i (field_in x) found ((document_rules doc).unrefused (canonical_name (field_in x).name) (field_in x).body (visit_in x).1 good);
    }

-- all of them
pub HasRead-end : {X : Type 0} (visit_in : X → Visit) (doc : Doc) (fields : List Field) (items : List X) (i : ℕ) → length fields ≤ i → HasRead visit_in doc fields items i → (map (λ x. (visit_in x).0) items ≡ fields) × (value_refusal_of (rules_of doc) fields ≡ None)
HasRead-end visit_in doc fields items i past all =
    let read = map (λ x. (visit_in x).0) items in
    (sym (append-nil read) ∙ ap (λ m. read ++ m) (sym (drop_all i fields past)) ∙ all.read, all.refusal ∙ ap (value_refusal_of (rules_of doc)) (drop_all i fields past))

-- the body of the field at the index is refused
pub refused-here : (doc : Doc) (fields : List Field) (i : ℕ) (raw : RawField) (refusal : Refusal) → option_map field_of (Some raw) ≡ slice_get fields i → value_refusal_of (rules_of doc) fields ≡ value_refusal_of (rules_of doc) (drop i fields) → (refusal.line ≡ raw.line) × (value_refusal doc (canonical_name raw.name.now) raw.body.now ≡ Some refusal.code) → value_refusal_of (rules_of doc) fields ≡ Some refusal
refused-here doc fields i raw refusal is before refused =
    before
    ∙ refusal-at doc fields i (field_of raw) (sym is)
    ∙ ap (λ o. refusal_or o raw.line (value_refusal_of (rules_of doc) (drop (i + 1) fields))) refused.1
    ∙ ap (λ line. Some (record { code = refusal.code; line = line })) (sym refused.0)

-- a fact about a refusal gives another
pub RefusedOrMemory-to : (P Q : Refusal → Type 0) → ((refusal : Refusal) → P refusal → Q refusal) → (fault : Fault) → RefusedOrMemory fault P → RefusedOrMemory fault Q
RefusedOrMemory-to P Q f (Refused refusal) h = f refusal h
RefusedOrMemory-to P Q f Memory h = tt
RefusedOrMemory-to P Q f Read h = absurd h
RefusedOrMemory-to P Q f Write h = absurd h

-- an index with no element is past the end
pub none_is_past : {X : Type 0} (xs : List X) (i : ℕ) → i < length xs → None ≡ slice_get xs i → ⊥
none_is_past xs i below none =
    elim (slice_get_cases xs i).1 [ inl found ↦ (let e : None ≡ Some found.0 = none ∙ found.2 in cc) | inr past ↦ omega arith ]
