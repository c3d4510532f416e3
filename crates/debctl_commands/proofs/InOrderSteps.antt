-- Steps that are taken for paths in order: one more, one that fails, and what all of them keep.
use Rattle.std.proofs.Common.{◌≡◌, ◌⊎◌, ◌+◌, ℕ, List, [], ◌∷◌, ◌++◌, Option, Some, None, Result, Ok, Err, length, inl, inr, refl, sym, ap, ◌∙◌, subst, arith, append-nil, append_assoc}
use Rattle.deb_base.specs.Devices.{failures_after}
use Rattle.deb_base.specs.Faults.{MatchFault}
use Rattle.deb_base.specs.declared.doc.Doc.{Doc}
use Rattle.deb_base.specs.declared.fault.Fault.{Fault}
use Rattle.deb_base.specs.declared.fault.Fault.TheVariants.{Refused, Memory, Read, Write}
use Rattle.deb_base.specs.declared.refusal.Refusal.{Refusal}
use Rattle.deb_control.specs.Documents.{refusal_of}
use Rattle.debctl_commands.specs.OpenedFiles.{AreTexts, InOrder, Opener, ReadsMore, ReadsOpened, ReadsPath, TakesFor, refusal_after, refusal_from}
use Rattle.debctl_commands.specs.declared.file_fault.PlaceFault.{PlaceFault}
use Rattle.debctl_commands.specs.declared.unopened.Unopened.{Unopened}

module _ {F S : Type 0} (step : List ℕ → F → S → Result S Fault → F → Type 0) where
  -- one more path after those before
  pub in_order_more : (place : ℕ) (paths : List (List ℕ)) (path : List ℕ) (f₀ f₁ f₂ : F) (s₀ s₁ s₂ : S) → InOrder step place paths f₀ s₀ (Ok s₁) f₁ → step path f₁ s₁ (Ok s₂) f₂ → InOrder step place (paths ++ path ∷ []) f₀ s₀ (Ok s₂) f₂
  in_order_more place [] path f₀ f₁ f₂ s₀ s₁ s₂ order next =
      (f₂, s₂, subst (λ f. step path f s₀ (Ok s₂) f₂) order.1 (subst (λ s. step path f₁ s (Ok s₂) f₂) order.0 next), (refl, refl))
  in_order_more place (first ∷ paths) path f₀ f₁ f₂ s₀ s₁ s₂ (f, s, done, others) next =
      (f, s, done, in_order_more (place + 1) paths path f f₁ f₂ s s₁ s₂ others next)

  -- a fault at one more path, and others follow it
  pub in_order_stopped : (place : ℕ) (paths more : List (List ℕ)) (path : List ℕ) (f₀ f₁ f₂ : F) (s₀ s₁ : S) (told : PlaceFault) → InOrder step place paths f₀ s₀ (Ok s₁) f₁ → step path f₁ s₁ (Err told.fault) f₂ → told.place ≡ place + length paths → InOrder step place ((paths ++ path ∷ []) ++ more) f₀ s₀ (Err told) f₂
  in_order_stopped place [] more path f₀ f₁ f₂ s₀ s₁ told order next is =
      inl (subst (λ f. step path f s₀ (Err told.fault) f₂) order.1 (subst (λ s. step path f₁ s (Err told.fault) f₂) order.0 next), omega (arith, is))
  in_order_stopped place (first ∷ paths) more path f₀ f₁ f₂ s₀ s₁ told (f, s, done, others) next is =
      inr (f, s, done, in_order_stopped (place + 1) paths more path f f₁ f₂ s s₁ told others next (omega (arith, is)))

-- an answer has one of its cases
pub ok_unread : {T : Type 0} (value : T) (answer : Result T Fault) → answer ≡ Ok value → answer ≡ Err Read → ⊥
ok_unread value answer is read = let none : ⊥ = cc in none

pub err_read : {T : Type 0} (fault : Fault) (answer : Result T Fault) → answer ≡ Err fault → answer ≡ Err Read → fault ≡ Read
err_read fault answer is read = cc

-- An opening fails only with the answer of a failed read.
pub opened_or_read : {F R T : Type 0} (by : Opener F R) (path : List ℕ) (files after : F) (answer : Result T Fault) → ReadsPath by path files answer after → (by.unopened after ≡ by.unopened files) ⊎ (answer ≡ Err Read)
opened_or_read {F} {R} {T} by path files after answer reads = go reads.opened reads.rest reads.counts_unopened reads.reads
  where
    go : (opened rest : Result R Unopened) → by.unopened after ≡ failures_after (by.unopened files) opened → ReadsOpened (TakesFor by answer) (answer ≡ Err Read) opened rest → (by.unopened after ≡ by.unopened files) ⊎ (answer ≡ Err Read)
    go (Ok reader) (Ok rest) counted was = inl counted
    go (Ok reader) (Err why) counted was = absurd was
    go (Err why) rest counted was = inr was.1

module _ {F R S : Type 0} (by : Opener F R) (Adds : S → Option (List ℕ) → Result S Fault → Type 0) where
  -- the texts of the files stay
  pub texts_stay : (place : ℕ) (paths : List (List ℕ)) (f₀ f₁ : F) (state : S) (answer : Result S PlaceFault) → InOrder (ReadsMore by Adds) place paths f₀ state answer f₁ → by.text f₁ ≡ by.text f₀
  texts_stay place [] f₀ f₁ state (Ok last) order = ap by.text order.1
  texts_stay place [] f₀ f₁ state (Err told) order = absurd order
  texts_stay place (path ∷ paths) f₀ f₁ state (Ok last) (f, s, done, others) = texts_stay (place + 1) paths f f₁ s (Ok last) others ∙ done.reads.unchanged
  texts_stay place (path ∷ paths) f₀ f₁ state (Err told) (inl failed) = failed.0.reads.unchanged
  texts_stay place (path ∷ paths) f₀ f₁ state (Err told) (inr (f, s, done, others)) = texts_stay (place + 1) paths f f₁ s (Err told) others ∙ done.reads.unchanged

  -- where all were read, no opening failed
  pub all_opened : (place : ℕ) (paths : List (List ℕ)) (f₀ f₁ : F) (state last : S) → InOrder (ReadsMore by Adds) place paths f₀ state (Ok last) f₁ → by.unopened f₁ ≡ by.unopened f₀
  all_opened place [] f₀ f₁ state last order = ap by.unopened order.1
  all_opened place (path ∷ paths) f₀ f₁ state last (f, s, done, others) =
      all_opened (place + 1) paths f f₁ s last others ∙ elim (opened_or_read by path f₀ f (Ok s) done.reads) [
        | inl same ↦ same
        | inr bad ↦ absurd (ok_unread s (Ok s) refl bad)
      ]

  -- and where one wasn't, either none failed or the fault is that of a failed read
  pub opened_or_fault : (place : ℕ) (paths : List (List ℕ)) (f₀ f₁ : F) (state : S) (told : PlaceFault) → InOrder (ReadsMore by Adds) place paths f₀ state (Err told) f₁ → (by.unopened f₁ ≡ by.unopened f₀) ⊎ (told.fault ≡ Read)
  opened_or_fault place [] f₀ f₁ state told order = absurd order
  opened_or_fault place (path ∷ paths) f₀ f₁ state told (inl failed) = elim (opened_or_read by path f₀ f₁ (Err told.fault) failed.0.reads) [
    | inl same ↦ inl same
    | inr bad ↦ inr (err_read told.fault (Err told.fault) refl bad)
  ]
  opened_or_fault place (path ∷ paths) f₀ f₁ state told (inr (f, s, done, others)) =
      let same = all_opened place (path ∷ []) f₀ f state s (f, s, done, (refl, refl)) in
      elim (opened_or_fault (place + 1) paths f f₁ s told others) [
        | inl more ↦ inl (more ∙ same)
        | inr bad ↦ inr bad
      ]

-- a fact about a refusal follows from another one
pub refusal_map : (fault : Fault) (P Q : Refusal → Type 0) → ((refusal : Refusal) → P refusal → Q refusal) → MatchFault fault P (Unit {0}) (Unit {0}) (Unit {0}) → MatchFault fault Q (Unit {0}) (Unit {0}) (Unit {0})
refusal_map (Refused refusal) P Q map is = map refusal is
refusal_map Memory P Q map is = tt
refusal_map Read P Q map is = tt
refusal_map Write P Q map is = tt

-- What was gathered of files whose texts are known, and which of them is refused: by what one more
-- file adds.
module _ {F R S : Type 0} (by : Opener F R) (Adds : S → Option (List ℕ) → Result S Fault → Type 0) (doc : Doc) (Has : List (List ℕ) → S → Type 0)
    (more : (before : List (List ℕ)) (text : List ℕ) (state next : S) → Has before state → Adds state (Some text) (Ok next) → Has (before ++ text ∷ []) next)
    (accepted : (before : List (List ℕ)) (text : List ℕ) (state next : S) → Has before state → Adds state (Some text) (Ok next) → refusal_of doc text ≡ None)
    (refused : (before : List (List ℕ)) (text : List ℕ) (state : S) (fault : Fault) → Has before state → Adds state (Some text) (Err fault) → MatchFault fault (λ refusal. refusal_of doc text ≡ Some refusal) (Unit {0}) (Unit {0}) (Unit {0})) where
  pub gathered : (place : ℕ) (paths texts before : List (List ℕ)) (f₀ f₁ : F) (state last : S) → InOrder (ReadsMore by Adds) place paths f₀ state (Ok last) f₁ → AreTexts (by.text f₀) paths texts → Has before state → Has (before ++ texts) last
  gathered place [] [] before f₀ f₁ state last order known has =
      subst (λ texts. Has texts last) (sym (append-nil before)) (subst (Has before) (sym order.0) has)
  gathered place [] (text ∷ texts) before f₀ f₁ state last order known has = absurd known
  gathered place (path ∷ paths) [] before f₀ f₁ state last order known has = absurd known
  gathered place (path ∷ paths) (text ∷ texts) before f₀ f₁ state last (f, s, done, others) (is, known) has =
      let next = more before text state s has (subst (λ left. Adds state left (Ok s)) is done.adds) in
      subst (λ all. Has all last) (append_assoc before (text ∷ []) texts)
      (gathered (place + 1) paths texts (before ++ text ∷ []) f f₁ s last others (subst (λ text. AreTexts text paths texts) (sym done.reads.unchanged) known) next)

  pub refused_place : (place : ℕ) (paths texts before : List (List ℕ)) (f₀ f₁ : F) (state : S) (told : PlaceFault) → InOrder (ReadsMore by Adds) place paths f₀ state (Err told) f₁ → AreTexts (by.text f₀) paths texts → Has before state
      → MatchFault told.fault (λ refusal. refusal_from doc place texts ≡ Some (told.place, refusal)) (Unit {0}) (Unit {0}) (Unit {0})
  refused_place place [] texts before f₀ f₁ state told order known has = absurd order
  refused_place place (path ∷ paths) [] before f₀ f₁ state told order known has = absurd known
  refused_place place (path ∷ paths) (text ∷ texts) before f₀ f₁ state told (inl failed) (is, known) has =
      refusal_map told.fault (λ refusal. refusal_of doc text ≡ Some refusal) (λ refusal. refusal_from doc place (text ∷ texts) ≡ Some (told.place, refusal))
      (λ refusal here. ap (λ found. refusal_after place found (refusal_from doc (place + 1) texts)) here ∙ ap (λ n. Some (n, refusal)) (sym failed.1))
      (refused before text state told.fault has (subst (λ left. Adds state left (Err told.fault)) is failed.0.adds))
  refused_place place (path ∷ paths) (text ∷ texts) before f₀ f₁ state told (inr (f, s, done, others)) (is, known) has =
      let adds = subst (λ left. Adds state left (Ok s)) is done.adds in
      let next = more before text state s has adds in
      refusal_map told.fault (λ refusal. refusal_from doc (place + 1) texts ≡ Some (told.place, refusal)) (λ refusal. refusal_from doc place (text ∷ texts) ≡ Some (told.place, refusal))
      (λ refusal later. ap (λ found. refusal_after place found (refusal_from doc (place + 1) texts)) (accepted before text state s has adds) ∙ later)
      (refused_place (place + 1) paths texts (before ++ text ∷ []) f f₁ s told others (subst (λ text. AreTexts text paths texts) (sym done.reads.unchanged) known) next)
