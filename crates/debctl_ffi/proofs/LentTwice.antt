-- The walk of a call that takes two pointers of C, each to what is lent, and hands references to both
-- and its other parameters on to one call.
use Rattle.std.proofs.Common.{List, [], ◌∷◌, ℕ, refl}
use base.Logic.{SProp, ent, sep, emp, never, via, fst∗, snd∗}
use base.Fml.{Fml, ftrue, fsep, flft}
use contract.Running.{Running}
use contract.Lifetimes.{Lfts, Shares, Outlives, AllOutlive}
use types.Logic.{Logic, sem}
use types.Kit.{‵, raw, ◌$◌, ◌∵◌, !, qed, by, move, drop, split, join, use2, fjoin, feq_i, ◌⊛◌}
use denote.RattleType.{RattleType, Denots, flat, owns}
use denote.Memory.{shared_of}
use denote.Opens.{hide}
use denote.RawPtr.{Ptr, RawPtr, ptr_val, null_ptr, block_ptr, block_of, count_of, rawptr_vals}
use denote.Ref.{ShrRef}
use denote.Signature.{Slot, plain, type_at, types_at}
use denote.Steps.{nothing}
use denote.Struct.Lending.{lent_at}
use denote.Exit.{yes}
use denote.Triple.Clauses.{Lasts, lasts, Ended, Clauses, closing, AtExit, at_exit}
use denote.Triple.Entry.{alive, Args, Res}
use denote.Triple.Spec.{Meets}
use seplogic.Ra.Ura.{Ura}
use mir.Syntax.{Fn, Callee, named}
use mir.Val.{Val, vptr}
use prog.Model.{Model}
use prog.Wp.{WpFn, Closed}
use Rattle.debctl_ffi.specs.Loans.{Loan, Loans}
use Rattle.debctl_ffi.proofs.HandsOn.{𝓣, AllPassed, Typing, but_first, ends, ends_in, hands_on, kept_but_first, pointer, somewhere, values}

-- the parameters after both pointers
abbrev pub but_two : {n : ℕ} → List (Slot n) → List (Slot n)
but_two ss = but_first (but_first ss)

module _ {M : Type 1} {𝓤 : Ura M} (𝓛 : Logic 𝓤) (𝓜 : Model 𝓤 𝓛.H) (𝓡 : Running 𝓤 𝓛.H 𝓜) where
  open 𝓛 use {H}

  module _ (X : Ended) where
    abbrev n : ℕ
    n = X.signature.lifetimes

    abbrev os : List (Outlives n)
    os = X.signature.outlives

    abbrev ss : List (Slot n)
    ss = but_two X.signature.params

    abbrev res : Slot n
    res = X.signature.result

    abbrev P : Ended
    P = record {
      signature = record { lifetimes = n; outlives = os; params = plain (λ κs. RawPtr) ∷ plain (λ κs. RawPtr) ∷ ss; result = res };
      kept = (yes, (yes, kept_but_first (but_first X.signature.params) (kept_but_first X.signature.params X.kept)));
    }

    module _ (Row : RattleType) where
      abbrev tok : Loan Row.Denot → SProp 𝓤
      tok g = sem 𝓛 (flft g.lifetime g.share)

      abbrev lent : Ptr → Loan Row.Denot → SProp 𝓤
      lent p g = sep 𝓤 (tok g) (sem 𝓛 (lent_at Row p g.value g.lifetime))

      abbrev both : Ptr → Ptr → Loans Row.Denot → SProp 𝓤
      both p q g = sep 𝓤 (lent p g.first) (lent q g.second)

      -- nothing is lent at null
      not_null : (g : Loan Row.Denot) → ent 𝓤 (lent null_ptr g) (never 𝓤)
      not_null g = via 𝓤 _ (snd∗ 𝓤 (tok g) _) (fst∗ 𝓤 (never 𝓤) (sem 𝓛 (shared_of Row g.value (block_of null_ptr) (count_of null_ptr) g.lifetime)))

      module _ (ensures : (κs : Lfts n) (a : Args P.signature κs) → Loans Row.Denot → Res P.signature κs → AtExit P κs → SProp 𝓤) (ps : AllPassed ss) where
        abbrev c : Clauses 𝓤 P
        c κs a = record { ghost = Loans Row.Denot; requires = both a.0 a.1.0; ensures = ensures κs a }

        module _ (κs : Lfts n) (qs : Shares n) (bounds : AllOutlive n os κs) (a : Denots (types_at ss κs)) (g : Loans Row.Denot) (b o d u : ℕ) where
          abbrev args : Args P.signature κs
          args = (block_ptr b o, (block_ptr d u, a))

          abbrev Ends : Val → SProp 𝓤
          Ends = ends_in 𝓛 𝓜 𝓡 P c (pointer, (pointer, ps)) κs qs bounds args g

          abbrev Runs : Fn → SProp 𝓤
          Runs e = WpFn 𝓤 H (𝓣 𝓛 𝓜 𝓡).C (𝓣 𝓛 𝓜 𝓡).Λ e (vptr b o ∷ vptr d u ∷ flat (types_at ss κs) (values κs ss ps a)) Ends

          abbrev first : Fml
          first = (ShrRef (named 0) g.first.lifetime Row).own_val (record { ref_ptr = (b, o); now = g.first.value }) (vptr b o ∷ [])

          abbrev second : Fml
          second = (ShrRef (named 1) g.second.lifetime Row).own_val (record { ref_ptr = (d, u); now = g.second.value }) (vptr d u ∷ [])

          -- what the call is given, and what the function ends with after it
          abbrev Given : SProp 𝓤
          Given = sep 𝓤 (sep 𝓤 (sep 𝓤 (tok g.first) (sep 𝓤 (tok g.second) (alive 𝓛 P.signature κs qs)))
              (sem 𝓛 (fsep first (fsep second (owns (types_at ss κs) a (values κs ss ps a)))))) (emp 𝓤)

          abbrev Back : Type 2
          Back = (v : Val) (r : Res P.signature κs) (ws : Lasts P κs args) (Q : SProp 𝓤)
              → ent 𝓤 (sep 𝓤 (sep 𝓤 (tok g.first) (tok g.second)) Q) (ensures κs args g r (at_exit P κs args ws))
              → ent 𝓤 (sep 𝓤 (sem 𝓛 ((type_at res κs).own_val r (v ∷ []))) (sep 𝓤 (sep 𝓤 (tok g.first) (sep 𝓤 (tok g.second) (alive 𝓛 P.signature κs qs))) (sep 𝓤 (sem 𝓛 (lasts P κs args ws)) Q)))
              (Ends v)

          back : Back
          back v r ws Q h = qed 𝓛 (‵ ((type_at res κs).own_val r (v ∷ [])) ∷ (raw (tok g.first) ⊛ (raw (tok g.second) ⊛ raw (alive 𝓛 P.signature κs qs))) ∷ ‵ (lasts P κs args ws) ∷ raw Q ∷ []) ∵
              -- [the tokens of both; the others; the result; the last values; what the call ensures]
              move ! (1 ∷ []) $ split ! $ move ! (1 ∷ []) $ split ! $ move ! (2 ∷ 0 ∷ []) $ join ! $
              move ! (0 ∷ 4 ∷ []) $ use2 𝓛 (raw (ensures κs args g r (at_exit P κs args ws))) h $ move ! (2 ∷ 1 ∷ 3 ∷ []) $
              by ! (ends 𝓛 𝓜 𝓡 P c (pointer, (pointer, ps)) κs qs bounds args g v r ws)

        pub lent_twice : (k : Callee) (e : Fn) → Closed 𝓤 H (𝓣 𝓛 𝓜 𝓡).C (𝓣 𝓛 𝓜 𝓡).Λ k e
            → ((κs : Lfts n) (qs : Shares n) (bounds : AllOutlive n os κs) (a : Denots (types_at ss κs)) (g : Loans Row.Denot) (b o d u : ℕ) → Typing κs ss ps a → Back κs qs bounds a g b o d u
            → ent 𝓤 (Given κs qs bounds a g b o d u) (Runs κs qs bounds a g b o d u e))
            → Meets 𝓛 P.signature ((𝓣 𝓛 𝓜 𝓡).C k) (closing 𝓛 P c)
        lent_twice k e closed walk = hands_on 𝓛 𝓜 𝓡 P c (pointer, (pointer, ps)) k e closed (λ κs qs bounds a g typed.
            let vss = values κs ss ps a.1.1 in let Rest : Fml = owns (types_at ss κs) a.1.1 vss in
            let here : (b o d u : ℕ) → ent 𝓤 (sep 𝓤 (both (block_ptr b o) (block_ptr d u) g) (sep 𝓤 (alive 𝓛 P.signature κs qs) (sem 𝓛 Rest))) (Runs κs qs bounds a.1.1 g b o d u e) =
            λ b o d u. qed 𝓛 (((‵ (flft g.first.lifetime g.first.share) ⊛ (‵ ftrue ⊛ ‵ (shared_of Row g.first.value b o g.first.lifetime)))
            ⊛ (‵ (flft g.second.lifetime g.second.share) ⊛ (‵ ftrue ⊛ ‵ (shared_of Row g.second.value d u g.second.lifetime)))) ∷ raw (alive 𝓛 P.signature κs qs) ∷ ‵ Rest ∷ [])
            {P = Runs κs qs bounds a.1.1 g b o d u e} (
            split ! $ split ! $ move ! (1 ∷ []) $ split ! $ drop ! $ hide ! $ feq_i ! (List Val) (vptr b o ∷ []) (vptr b o ∷ []) refl $ fjoin ! $
            -- [the first reference; its token; what is lent second; the other tokens; the other parameters]
            move ! (2 ∷ []) $ split ! $ move ! (1 ∷ []) $ split ! $ drop ! $ hide ! $ feq_i ! (List Val) (vptr d u ∷ []) (vptr d u ∷ []) refl $ fjoin ! $
            -- [the second reference; its token; the first; its token; the other tokens; the other parameters]
            move ! (0 ∷ 5 ∷ []) $ fjoin ! $ move ! (2 ∷ 0 ∷ []) $ fjoin ! $ move ! (1 ∷ 3 ∷ []) $ join ! $ move ! (2 ∷ 0 ∷ []) $ join ! $ join ! $ nothing ! $ move ! (1 ∷ 0 ∷ []) $
            by ! (walk κs qs bounds a.1.1 g b o d u typed.1.1 (back κs qs bounds a.1.1 g b o d u))) in
            qed 𝓛 ((raw (alive 𝓛 P.signature κs qs) ⊛ (‵ (RawPtr.own_val a.0 (rawptr_vals a.0)) ⊛ (‵ (RawPtr.own_val a.1.0 (rawptr_vals a.1.0)) ⊛ ‵ Rest))) ∷ raw (both a.0 a.1.0 g) ∷ [])
            {P = WpFn 𝓤 H (𝓣 𝓛 𝓜 𝓡).C (𝓣 𝓛 𝓜 𝓡).Λ e (ptr_val a.0 ∷ ptr_val a.1.0 ∷ flat (types_at ss κs) vss) (ends_in 𝓛 𝓜 𝓡 P c (pointer, (pointer, ps)) κs qs bounds a g)} (
            split ! $ move ! (1 ∷ []) $ split ! $ drop ! $ split ! $ drop ! $ move ! (2 ∷ 1 ∷ 0 ∷ []) $
            by ! (somewhere 𝓤 (λ p. both p a.1.0 g) (λ p. WpFn 𝓤 H (𝓣 𝓛 𝓜 𝓡).C (𝓣 𝓛 𝓜 𝓡).Λ e (ptr_val p ∷ ptr_val a.1.0 ∷ flat (types_at ss κs) vss) (ends_in 𝓛 𝓜 𝓡 P c (pointer, (pointer, ps)) κs qs bounds (p, a.1) g))
            (sep 𝓤 (alive 𝓛 P.signature κs qs) (sem 𝓛 Rest)) a.0 (via 𝓤 _ (fst∗ 𝓤 _ (lent a.1.0 g.second)) (not_null g.first))
            (λ b o. somewhere 𝓤 (λ q. both (block_ptr b o) q g) (λ q. WpFn 𝓤 H (𝓣 𝓛 𝓜 𝓡).C (𝓣 𝓛 𝓜 𝓡).Λ e (vptr b o ∷ ptr_val q ∷ flat (types_at ss κs) vss) (ends_in 𝓛 𝓜 𝓡 P c (pointer, (pointer, ps)) κs qs bounds (block_ptr b o, (q, a.1.1)) g))
            (sep 𝓤 (alive 𝓛 P.signature κs qs) (sem 𝓛 Rest)) a.1.0 (via 𝓤 _ (snd∗ 𝓤 (lent (block_ptr b o) g.first) _) (not_null g.second)) (here b o)))))
