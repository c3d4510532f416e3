-- The walks of the calls that take a pointer of C and hand their other parameters on to one call.
pub use Rattle.std.proofs.Common.{ap, ◌≡◌, List, [], ◌∷◌, refl, w8, w64}
pub use base.Logic.{SProp, sep, emp, id⊢, ex_i, guard_i}
pub use mir.Syntax.{named}
pub use mir.Val.{Val, vptr, vunit}
pub use types.Logic.{sem}
pub use types.Kit.{‵, raw, ◌$◌, ◌∵◌, !, qed, by, move, keep, drop, use1, fsplit, fjoin, feq_i}
pub use types.Run.{init, load, look, unit_lit, assigns, enter, of_opd, addr, stop, fld, hop, from, no_more, and_then, returns}
pub use types.ByLocal.{alloc_all, pass_all, free_all, look_at, look_in_at, get, get_in, through, sets, lands_as}
pub use types.Part.{agg, sub, whole}
pub use denote.Builtin.{u8, u64, usize}
pub use denote.RawPtr.{block_ptr, lies_at, room_at}
pub use denote.Slice.{ShrSlice}
pub use denote.Steps.{nothing, only}
pub use denote.Triple.Clauses.{at_exit}
pub use denote.Triple.Spec.{triple_of}
pub use denote.Triple.Table.{framed}
pub use base.Fraction.{full_share}
pub use base.Fml.{fat}
pub use denote.Memory.{lone}
pub use Rattle.debctl_ffi.specs.contracts.answer.Answer.{the_row as Answer}
use Rattle.std.proofs.Common.{sym, ℕ, ◌<◌, length, subst}
use Rattle.std.proofs.raw_atomic.Walks.{proved, leaves}
use base.Logic.{ent, fst∗, never, via, snd∗, never_e}
use base.Fml.{Fml, ftrue, fsep, flft}
use contract.Running.{tables, Running, MachineTables}
use types.Logic.{Logic}
use types.Kit.{◌⊛◌, some, later, use2, split, join, pick, await, rewrite, Item, Seq, runs, lands, Post, use0}
use types.Run.{Opds}
use types.ByLocal.{env}
use denote.Laws.{Is, shows, Tells, Are, Ises, Spells, Tellss, valss, Lawful, Typed}
use denote.Opens.{hide}
use denote.RattleType.{RattleType, Denots, Valss, flat, owns}
use denote.Memory.{shared_of, part_at}
use denote.RawPtr.{Ptr, RawPtr, ptr_val, null_ptr, block_of, count_of, rawptr_vals, rawptr_Tells}
use denote.Ref.{ShrRef, mut_Tells}
use denote.Signature.{Signature, AllWithin, shr_slice_of, mut_slice_of, mut_ref_to, Slot, plain, type_at, types_at}
use denote.Slice.{slice_ty, slice_val, shr_slice_Tells, mut_slice_Tells}
use denote.Plain.{UInt, uint_Tells}
use denote.Steps.{peeks}
use denote.Struct.Lending.{lent_at}
use denote.Triple.Call.{calls_at}
use denote.Triple.Clauses.{Lasts, lasts, Ended, Clauses, closing, AtExit}
use denote.Triple.Entry.{alive, Args, Res, on_entry}
use denote.Triple.Walked.{Stays, walk_of, AllGo, fits_of, has_of}
use seplogic.Ra.Ura.{Ura}
use lib.Dec.{T, lit<, eqb_refl}
use mir.Syntax.{Ty, Fn, Callee, Opd, Place, Body, call, seq, ty_ptr, ty_int, Width}
use mir.Val.{WT, has_ty, vint}
use prog.Model.{Model}
use prog.Wp.{WpFn, Closed, Env, Calls, Loops}
use sound.WpLaws.{FmC}
use contract.Lifetimes.{Lfts, Shares, Outlives, AllOutlive, lft_at}
use denote.Exit.{left, yes}
use denote.Triple.End.{Kepts, Fins, lasts_of}
use denote.Triple.Spec.{Meets}
use denote.Triple.Statement.{Triple}
use borrow.Table.OneValue.{part_in, part_out}
use Rattle.std.specs.contracts.alloc.Global.{the_row as Heap}
use Rattle.debctl_ffi.proofs.answer.Answer.TheLaws.{the_row_laws}
use Rattle.debctl_ffi.specs.Loans.{Loan}
use Rattle.std.proofs.alloc.Global.TheLaws as heap_laws

abbrev pub but_first : {n : ℕ} → List (Slot n) → List (Slot n)
but_first [] = []
but_first (s ∷ ss) = ss

abbrev pub kept_but_first : {n : ℕ} (ss : List (Slot n)) → Kepts ss → Kepts (but_first ss)
kept_but_first [] ks = tt
kept_but_first (s ∷ ss) ks = ks.1

-- At its end a function has of each parameter what the contract says of it, as where it has handed
-- them all on.
abbrev pub handed : {n : ℕ} (ss : List (Slot n)) (ks : Kepts ss) → Stays ss ks
handed [] ks = tt
handed (s ∷ ss) ks = (record { fit = λ κs x f. Unit {0}; has = λ κs x f vs. left ((s.row κs).exit ks.0) x f }, handed ss ks.1)

goes : {M : Type 1} {𝓤 : Ura M} (𝓛 : Logic 𝓤) {n : ℕ} (ss : List (Slot n)) (ks : Kepts ss) → AllGo 𝓛 n ss ks (handed ss ks)
goes 𝓛 [] ks = tt
goes 𝓛 (s ∷ ss) ks = ((λ κs x f vs fits. 𝓛.laws.⇛_intro _), goes 𝓛 ss ks.1)

fits : {n : ℕ} (κs : Lfts n) (ss : List (Slot n)) (ks : Kepts ss) (a : Denots (types_at ss κs)) (ws : Fins κs ss ks a) → fits_of κs ss ks (handed ss ks) a ws
fits κs [] ks a ws = tt
fits κs (s ∷ ss) ks a ws = (tt, fits κs ss ks.1 a.1 ws.1)

-- what is had of them then is what says their last values
has_lasts : {n : ℕ} (κs : Lfts n) (ss : List (Slot n)) (ks : Kepts ss) (a : Denots (types_at ss κs)) (ws : Fins κs ss ks a) (vss : Valss (types_at ss κs))
    → has_of κs ss ks (handed ss ks) a ws vss ≡ lasts_of κs ss ks a ws
has_lasts κs [] ks a ws vss = refl
has_lasts κs (s ∷ ss) ks a ws vss = ap (fsep (left ((s.row κs).exit ks.0) a.0 ws.0)) (has_lasts κs ss ks.1 a.1 ws.1 vss.1)

-- How a parameter is passed: its machine value, and that it is of its type.
pub record Passed {n : ℕ} (s : Slot n) : Type 0 where
  pub ty : Ty
  pub val : (κs : Lfts n) → (s.row κs).Denot → Val
  pub tells : (κs : Lfts n) → Tells (s.row κs) (Is (s.row κs)) (λ x. val κs x ∷ [])
  pub typed : (κs : Lfts n) (x : (s.row κs).Denot) (vs : List Val) → Is (s.row κs) x vs → T (has_ty ty (val κs x)) × WT (val κs x)

pub typed_ptr : (p : Ptr) → T (has_ty ty_ptr (ptr_val p)) × WT (ptr_val p)
typed_ptr (block_ptr b o) = (tt, tt)
typed_ptr null_ptr = (tt, record { fits = lit< tt })

module _ {n : ℕ} where
  abbrev pub pointer : Passed {n = n} (plain (λ κs. RawPtr))
  pointer = record { ty = ty_ptr; val = λ κs p. ptr_val p; tells = λ κs. rawptr_Tells; typed = λ κs p vs e. typed_ptr p }

  abbrev pub number : (w : Width) → Passed {n = n} (plain (λ κs. UInt w))
  number w = record { ty = ty_int w; val = λ κs x. vint w x; tells = λ κs. uint_Tells w; typed = λ κs x vs p. (eqb_refl _, record { fits = p.1 }) }

  abbrev pub heap : {M : Type 1} {𝓤 : Ura M} → Logic 𝓤 → Passed {n = n} (plain (λ κs. Heap))
  heap 𝓛 = record {
    ty = lone Heap.mir;
    val = λ κs x. heap_laws.the_field_laws.low x;
    tells = λ κs. heap_laws.the_field_laws.low-is;
    typed = λ κs x vs p. (subst (λ (us : List Val). Typed Heap.mir us) (heap_laws.the_field_laws.low-is x vs p) ((heap_laws.the_row_laws.lawful 𝓛).typed x vs p)).0;
  }

  module _ (j : ℕ) (ok : AllWithin n (j ∷ [])) (R : Lfts n → RattleType) where
    abbrev pub slice : Passed (shr_slice_of (j ∷ []) ok (plain R))
    slice = record {
      ty = slice_ty ty_ptr;
      val = λ κs x. slice_val x.ref_ptr (length x.now);
      tells = λ κs. shr_slice_Tells (named j) (lft_at n j ok κs) (R κs);
      typed = λ κs x vs p. (tt, (tt, (record { fits = p.0.1.0 }, tt)));
    }

    abbrev pub mut_slice : Passed (mut_slice_of (j ∷ []) ok (plain R))
    mut_slice = record {
      ty = slice_ty ty_ptr;
      val = λ κs x. slice_val x.ref_ptr (length x.now);
      tells = λ κs. mut_slice_Tells (named j) (lft_at n j ok κs) (R κs);
      typed = λ κs x vs p. (tt, (tt, (record { fits = p.0.1.0 }, tt)));
    }

    abbrev pub mut_ref : Passed (mut_ref_to (j ∷ []) ok (plain R))
    mut_ref = record {
      ty = ty_ptr;
      val = λ κs x. vptr x.ref_ptr.0 x.ref_ptr.1;
      tells = λ κs. mut_Tells (named j) (lft_at n j ok κs) (R κs);
      typed = λ κs x vs p. (tt, tt);
    }

  -- the same of all of them
  abbrev pub AllPassed : List (Slot n) → Type 0
  AllPassed [] = Unit {0}
  AllPassed (s ∷ ss) = Passed s × AllPassed ss

  module _ (κs : Lfts n) where
    abbrev pub spells : (ss : List (Slot n)) → AllPassed ss → Spells (types_at ss κs)
    spells [] ps = tt
    spells (s ∷ ss) ps = ((λ x. ps.0.val κs x ∷ []), spells ss ps.1)

    abbrev pub values : (ss : List (Slot n)) (ps : AllPassed ss) → Denots (types_at ss κs) → Valss (types_at ss κs)
    values ss ps = valss (types_at ss κs) (spells ss ps)

    telling : (ss : List (Slot n)) (ps : AllPassed ss) → Tellss (types_at ss κs) (Ises (types_at ss κs)) (spells ss ps)
    telling [] ps = tt
    telling (s ∷ ss) ps = (ps.0.tells κs, telling ss ps.1)

    abbrev pub Typing : (ss : List (Slot n)) → AllPassed ss → Denots (types_at ss κs) → Type 0
    Typing [] ps a = Unit {0}
    Typing (s ∷ ss) ps a = (T (has_ty ps.0.ty (ps.0.val κs a.0)) × WT (ps.0.val κs a.0)) × Typing ss ps.1 a.1

    typing : (ss : List (Slot n)) (ps : AllPassed ss) (a : Denots (types_at ss κs)) (vss : Valss (types_at ss κs)) → Are (types_at ss κs) (Ises (types_at ss κs)) a vss → Typing ss ps a
    typing [] ps a vss are = tt
    typing (s ∷ ss) ps a vss are = (ps.0.typed κs a.0 vss.0 are.0, typing ss ps.1 a.1 vss.1 are.1)

-- what is nowhere at null lies in a block
pub somewhere : {M : Type 1} (𝓤 : Ura M) (N Q : Ptr → SProp 𝓤) (R : SProp 𝓤) (p : Ptr) → ent 𝓤 (N null_ptr) (never 𝓤) → ((b o : ℕ) → ent 𝓤 (sep 𝓤 (N (block_ptr b o)) R) (Q (block_ptr b o))) → ent 𝓤 (sep 𝓤 (N p) R) (Q p)
somewhere 𝓤 N Q R (block_ptr b o) none k = k b o
somewhere 𝓤 N Q R null_ptr none k = via 𝓤 (N null_ptr) (fst∗ 𝓤 (N null_ptr) R) (via 𝓤 (never 𝓤) none (never_e 𝓤 _))

module _ {M : Type 1} {𝓤 : Ura M} (𝓛 : Logic 𝓤) (𝓜 : Model 𝓤 𝓛.H) (𝓡 : Running 𝓤 𝓛.H 𝓜) where
  open 𝓛 use {H}

  abbrev pub 𝓣 : MachineTables 𝓤 H 𝓜
  𝓣 = tables 𝓤 H 𝓜 𝓡 𝓡.env

  module _ (E : Ended) (c : Clauses 𝓤 E) (ps : AllPassed E.signature.params) where
    abbrev S : Signature
    S = E.signature

    abbrev pub ends_in : (κs : Lfts S.lifetimes) (qs : Shares S.lifetimes) (bounds : AllOutlive S.lifetimes S.outlives κs) (a : Args S κs) (g : (c κs a).ghost) → Val → SProp 𝓤
    ends_in κs qs bounds a g = (walk_of 𝓛 E (handed S.params E.kept) c).post ((κs, qs, bounds, a, values κs S.params ps a), g)

    -- a function that hands its parameters on
    pub hands_on : (k : Callee) (e : Fn) → Closed 𝓤 H 𝓣.C 𝓣.Λ k e
        → ((κs : Lfts S.lifetimes) (qs : Shares S.lifetimes) (bounds : AllOutlive S.lifetimes S.outlives κs) (a : Args S κs) (g : (c κs a).ghost) → Typing κs S.params ps a
        → ent 𝓤 (sep 𝓤 (on_entry 𝓛 S κs qs a (values κs S.params ps a)) ((c κs a).requires g)) (WpFn 𝓤 H 𝓣.C 𝓣.Λ e (flat (types_at S.params κs) (values κs S.params ps a)) (ends_in κs qs bounds a g)))
        → Meets 𝓛 S (𝓣.C k) (closing 𝓛 E c)
    hands_on k e closed walk = proved 𝓛 E (handed S.params E.kept) c 𝓜 𝓡 (goes 𝓛 S.params E.kept) k e closed (λ κs. spells κs S.params ps) (λ κs. telling κs S.params ps)
        (λ κs qs bounds a g are. walk κs qs bounds a g (typing κs S.params ps a (values κs S.params ps a) are))

    -- how it ends: [the result; the tokens; the last values; what it ensures]
    pub ends : (κs : Lfts S.lifetimes) (qs : Shares S.lifetimes) (bounds : AllOutlive S.lifetimes S.outlives κs) (a : Args S κs) (g : (c κs a).ghost) (v : Val) (r : Res S κs) (ws : Lasts E κs a)
        → ent 𝓤 (sep 𝓤 (sem 𝓛 ((type_at S.result κs).own_val r (v ∷ []))) (sep 𝓤 (alive 𝓛 S κs qs) (sep 𝓤 (sem 𝓛 (lasts E κs a ws)) ((c κs a).ensures g r (at_exit E κs a ws))))) (ends_in κs qs bounds a g v)
    ends κs qs bounds a g v r ws =
        let has : Fml = has_of κs S.params E.kept (handed S.params E.kept) a ws (values κs S.params ps a) in
        let is : has ≡ lasts E κs a ws = has_lasts κs S.params E.kept a ws (values κs S.params ps a) in
        qed 𝓛 (‵ ((type_at S.result κs).own_val r (v ∷ [])) ∷ raw (alive 𝓛 S κs qs) ∷ ‵ (lasts E κs a ws) ∷ raw ((c κs a).ensures g r (at_exit E κs a ws)) ∷ []) ∵
        rewrite ! 2 (λ (P : Fml). ‵ P) (sym is) refl $ move ! (1 ∷ 2 ∷ []) $
        by ! (leaves 𝓛 E (handed S.params E.kept) c ((κs, qs, bounds, a, values κs S.params ps a), g) v r ws (fits κs S.params E.kept a ws))

  -- X, a function whose first parameter is a pointer.
  module _ (X : Ended) where
    abbrev n : ℕ
    n = X.signature.lifetimes

    abbrev os : List (Outlives n)
    os = X.signature.outlives

    abbrev ss : List (Slot n)
    ss = but_first X.signature.params

    abbrev res : Slot n
    res = X.signature.result

    abbrev P : Ended
    P = record { signature = record { lifetimes = n; outlives = os; params = plain (λ κs. RawPtr) ∷ ss; result = res }; kept = (yes, kept_but_first X.signature.params X.kept) }

    -- what it needs there is nowhere at null
    module _ (Gh : Type 0) (needs : Ptr → Gh → SProp 𝓤) (ensures : (κs : Lfts n) (a : Args P.signature κs) → Gh → Res P.signature κs → AtExit P κs → SProp 𝓤) (ps : AllPassed ss) where
      abbrev c : Clauses 𝓤 P
      c κs a = record { ghost = Gh; requires = needs a.0; ensures = ensures κs a }

      module _ (κs : Lfts n) (qs : Shares n) (bounds : AllOutlive n os κs) (a : Denots (types_at ss κs)) (g : Gh) (b o : ℕ) where
        abbrev Own : Fml
        Own = owns (types_at ss κs) a (values κs ss ps a)

        abbrev Ends : Val → SProp 𝓤
        Ends = ends_in P c (pointer, ps) κs qs bounds (block_ptr b o, a) g

        abbrev Runs : Fn → SProp 𝓤
        Runs e = WpFn 𝓤 H 𝓣.C 𝓣.Λ e (vptr b o ∷ flat (types_at ss κs) (values κs ss ps a)) Ends

      pub pointed_call : ((g : Gh) → ent 𝓤 (needs null_ptr g) (never 𝓤)) → (k : Callee) (e : Fn) → Closed 𝓤 H 𝓣.C 𝓣.Λ k e
          → ((κs : Lfts n) (qs : Shares n) (bounds : AllOutlive n os κs) (a : Denots (types_at ss κs)) (g : Gh) (b o : ℕ) → Typing κs ss ps a
          → ent 𝓤 (sep 𝓤 (needs (block_ptr b o) g) (sep 𝓤 (alive 𝓛 P.signature κs qs) (sem 𝓛 (Own κs qs bounds a g b o)))) (Runs κs qs bounds a g b o e))
          → Meets 𝓛 P.signature (𝓣.C k) (closing 𝓛 P c)
      pointed_call none k e closed walk = hands_on P c (pointer, ps) k e closed (λ κs qs bounds a g typed.
          let vss : Valss (types_at ss κs) = values κs ss ps a.1 in let Rest : Fml = owns (types_at ss κs) a.1 vss in
          qed 𝓛 ((raw (alive 𝓛 P.signature κs qs) ⊛ (‵ (RawPtr.own_val a.0 (rawptr_vals a.0)) ⊛ ‵ Rest)) ∷ raw (needs a.0 g) ∷ [])
          {P = WpFn 𝓤 H 𝓣.C 𝓣.Λ e (ptr_val a.0 ∷ flat (types_at ss κs) vss) (ends_in P c (pointer, ps) κs qs bounds a g)} (
          split ! $ move ! (1 ∷ []) $ split ! $ drop ! $ move ! (2 ∷ 1 ∷ 0 ∷ []) $
          by ! (somewhere 𝓤 (λ p. needs p g) (λ p. WpFn 𝓤 H 𝓣.C 𝓣.Λ e (ptr_val p ∷ flat (types_at ss κs) vss) (ends_in P c (pointer, ps) κs qs bounds (p, a.1) g))
          (sep 𝓤 (alive 𝓛 P.signature κs qs) (sem 𝓛 Rest)) a.0 (none g) (λ b o. walk κs qs bounds a.1 g b o typed.1))))

    -- It is lent what lies there, and hands on a reference to it.
    module _ (Row : RattleType) where
      abbrev lent : Ptr → Loan Row.Denot → SProp 𝓤
      lent p g = sep 𝓤 (sem 𝓛 (flft g.lifetime g.share)) (sem 𝓛 (lent_at Row p g.value g.lifetime))

      module _ (ensures : (κs : Lfts n) (a : Args P.signature κs) → Loan Row.Denot → Res P.signature κs → AtExit P κs → SProp 𝓤) (ps : AllPassed ss) where
        module _ (κs : Lfts n) (qs : Shares n) (bounds : AllOutlive n os κs) (a : Denots (types_at ss κs)) (g : Loan Row.Denot) (b o : ℕ) where
          abbrev tok : SProp 𝓤
          tok = sem 𝓛 (flft g.lifetime g.share)

          -- what the call is given, and what the function ends with after it
          abbrev Given : SProp 𝓤
          Given = sep 𝓤 (sep 𝓤 (sep 𝓤 tok (alive 𝓛 P.signature κs qs))
              (sem 𝓛 (fsep ((ShrRef (named 0) g.lifetime Row).own_val (record { ref_ptr = (b, o); now = g.value }) (vptr b o ∷ [])) (owns (types_at ss κs) a (values κs ss ps a))))) (emp 𝓤)

          abbrev Back : Type 2
          Back = (v : Val) (r : Res P.signature κs) (ws : Lasts P κs (block_ptr b o, a)) (Q : SProp 𝓤) → ent 𝓤 (sep 𝓤 tok Q) (ensures κs (block_ptr b o, a) g r (at_exit P κs (block_ptr b o, a) ws))
              → ent 𝓤 (sep 𝓤 (sem 𝓛 ((type_at res κs).own_val r (v ∷ []))) (sep 𝓤 (sep 𝓤 tok (alive 𝓛 P.signature κs qs)) (sep 𝓤 (sem 𝓛 (lasts P κs (block_ptr b o, a) ws)) Q)))
              (Ends (Loan Row.Denot) lent ensures ps κs qs bounds a g b o v)

          back : Back
          back v r ws Q h = qed 𝓛 (‵ ((type_at res κs).own_val r (v ∷ [])) ∷ (raw tok ⊛ raw (alive 𝓛 P.signature κs qs)) ∷ ‵ (lasts P κs (block_ptr b o, a) ws) ∷ raw Q ∷ []) ∵
              move ! (1 ∷ []) $ split ! $ move ! (0 ∷ 4 ∷ []) $ use2 𝓛 (raw (ensures κs (block_ptr b o, a) g r (at_exit P κs (block_ptr b o, a) ws))) h $ move ! (2 ∷ 1 ∷ 3 ∷ []) $
              by ! (ends P (c (Loan Row.Denot) lent ensures ps) (pointer, ps) κs qs bounds (block_ptr b o, a) g v r ws)

        pub lent_call : (k : Callee) (e : Fn) → Closed 𝓤 H 𝓣.C 𝓣.Λ k e
            → ((κs : Lfts n) (qs : Shares n) (bounds : AllOutlive n os κs) (a : Denots (types_at ss κs)) (g : Loan Row.Denot) (b o : ℕ) → Typing κs ss ps a → Back κs qs bounds a g b o
            → ent 𝓤 (Given κs qs bounds a g b o) (Runs (Loan Row.Denot) lent ensures ps κs qs bounds a g b o e))
            → Meets 𝓛 P.signature (𝓣.C k) (closing 𝓛 P (c (Loan Row.Denot) lent ensures ps))
        lent_call k e closed walk = pointed_call (Loan Row.Denot) lent ensures ps (λ g. via 𝓤 _ (snd∗ 𝓤 (sem 𝓛 (flft g.lifetime g.share)) _) (fst∗ 𝓤 (never 𝓤) (sem 𝓛 (shared_of Row g.value (block_of null_ptr) (count_of null_ptr) g.lifetime)))) k e closed
            (λ κs qs bounds a g b o typed.
            qed 𝓛 ((‵ (flft g.lifetime g.share) ⊛ (‵ ftrue ⊛ ‵ (shared_of Row g.value b o g.lifetime))) ∷ raw (alive 𝓛 P.signature κs qs) ∷ ‵ (owns (types_at ss κs) a (values κs ss ps a)) ∷ [])
            {P = Runs (Loan Row.Denot) lent ensures ps κs qs bounds a g b o e} (
            split ! $ move ! (1 ∷ []) $ split ! $ drop ! $ hide ! $ feq_i ! (List Val) (vptr b o ∷ []) (vptr b o ∷ []) refl $ fjoin ! $
            -- [the reference; the token of its lifetime; the other tokens; the other parameters]
            move ! (0 ∷ 3 ∷ []) $ fjoin ! $ move ! (1 ∷ 2 ∷ []) $ join ! $ join ! $ nothing ! $ move ! (1 ∷ 0 ∷ []) $
            by ! (walk κs qs bounds a g b o typed (back κs qs bounds a g b o))))

    -- It has what lies there, or room for it: what is said of either is of the one machine value v.
    module _ (Row : RattleType) (one : Row.mir ≡ lone Row.mir ∷ []) (lawful : Lawful 𝓛 Row) where
      abbrev pub Good : Val → Type 0
      Good v = T (has_ty (lone Row.mir) v) × WT v

      pub good : (x : Row.Denot) (v : Val) → Is Row x (v ∷ []) → Good v
      good x v is = (subst (λ (τs : List Ty). Typed τs (v ∷ [])) one (lawful.typed x (v ∷ []) is)).0

      module _ (Gh : Type 0) (needs : Ptr → Gh → SProp 𝓤) (ensures : (κs : Lfts n) (a : Args P.signature κs) → Gh → Res P.signature κs → AtExit P κs → SProp 𝓤) (ps : AllPassed ss) (κs : Lfts n) (qs : Shares n) (bounds : AllOutlive n os κs) (a : Denots (types_at ss κs)) (g : Gh) (b o : ℕ) where
        -- how it ends with r there: [what owns r; the tokens; the last values of the other parameters; what is said of r; its cell]
        abbrev Wrote : Type 2
        Wrote = (v : Val) (r : Row.Denot) (u : Res P.signature κs) → ent 𝓤 (emp 𝓤) (sem 𝓛 ((type_at res κs).own_val u (vunit ∷ []))) → (ws : Lasts P κs (block_ptr b o, a)) (Q : SProp 𝓤)
            → ent 𝓤 (sep 𝓤 (sem 𝓛 (lies_at Row full_share (block_ptr b o) r)) Q) (ensures κs (block_ptr b o, a) g u (at_exit P κs (block_ptr b o, a) ws))
            → ent 𝓤 (sep 𝓤 (sem 𝓛 (Row.own_val r (v ∷ []))) (sep 𝓤 (alive 𝓛 P.signature κs qs) (sep 𝓤 (sem 𝓛 (lasts_of κs ss P.kept.1 a ws.1)) (sep 𝓤 Q (sem 𝓛 (fat full_share (lone Row.mir) b o v))))))
            (Ends Gh needs ensures ps κs qs bounds a g b o vunit)

        wrote : Wrote
        wrote v r u unit ws Q h =
            qed 𝓛 (‵ (Row.own_val r (v ∷ [])) ∷ raw (alive 𝓛 P.signature κs qs) ∷ ‵ (lasts_of κs ss P.kept.1 a ws.1) ∷ raw Q ∷ ‵ (fat full_share (lone Row.mir) b o v) ∷ []) ∵
            move ! (4 ∷ 0 ∷ []) $ use2 𝓛 (‵ (part_at Row full_share r b o)) (part_in 𝓛 Row one full_share r b o v) $ move ! (0 ∷ 3 ∷ []) $
            use2 𝓛 (raw (ensures κs (block_ptr b o, a) g u (at_exit P κs (block_ptr b o, a) ws))) h $
            move ! (2 ∷ []) $ nothing ! $ fjoin ! $ use0 𝓛 (‵ ((type_at res κs).own_val u (vunit ∷ []))) unit $ move ! (0 ∷ 3 ∷ 1 ∷ 2 ∷ []) $
            by ! (ends P (c Gh needs ensures ps) (pointer, ps) κs qs bounds (block_ptr b o, a) g vunit u ws)

      module _ (ensures : (κs : Lfts n) (a : Args P.signature κs) → Row.Denot → Res P.signature κs → AtExit P κs → SProp 𝓤) (ps : AllPassed ss) where
        abbrev lies : Ptr → Row.Denot → SProp 𝓤
        lies p x = sem 𝓛 (lies_at Row full_share p x)

        pub held_call : (k : Callee) (e : Fn) → Closed 𝓤 H 𝓣.C 𝓣.Λ k e
            → ((κs : Lfts n) (qs : Shares n) (bounds : AllOutlive n os κs) (a : Denots (types_at ss κs)) (x : Row.Denot) (b o : ℕ) (v : Val) → Typing κs ss ps a → Good v → Wrote Row.Denot lies ensures ps κs qs bounds a x b o
            → ent 𝓤 (sep 𝓤 (sep 𝓤 (sep 𝓤 (alive 𝓛 P.signature κs qs) (sem 𝓛 (fsep (Row.own_val x (v ∷ [])) (owns (types_at ss κs) a (values κs ss ps a))))) (emp 𝓤)) (sem 𝓛 (fat full_share (lone Row.mir) b o v)))
            (Runs Row.Denot lies ensures ps κs qs bounds a x b o e))
            → Meets 𝓛 P.signature (𝓣.C k) (closing 𝓛 P (c Row.Denot lies ensures ps))
        held_call k e closed walk = pointed_call Row.Denot lies ensures ps (λ x. id⊢ 𝓤 _) k e closed (λ κs qs bounds a x b o typed.
            qed 𝓛 (‵ (part_at Row full_share x b o) ∷ raw (alive 𝓛 P.signature κs qs) ∷ ‵ (owns (types_at ss κs) a (values κs ss ps a)) ∷ []) {P = Runs Row.Denot lies ensures ps κs qs bounds a x b o e} (
            use1 𝓛 (some (λ (v : Val). ‵ (fat full_share (lone Row.mir) b o v) ⊛ ‵ (Row.own_val x (v ∷ [])))) (part_out 𝓛 Row one full_share x b o) $ pick ! (λ v. split ! $ move ! (1 ∷ []) $
            peeks ! Row (Is Row) (shows 𝓛 Row) x (v ∷ []) (λ is.
            move ! (0 ∷ 3 ∷ []) $ fjoin ! $ move ! (2 ∷ 0 ∷ []) $ join ! $ nothing ! $ move ! (1 ∷ 0 ∷ []) $ join ! $
            by ! (walk κs qs bounds a x b o v typed (good x v is) (wrote Row.Denot lies ensures ps κs qs bounds a x b o))))))

      module _ (ensures : (κs : Lfts n) (a : Args P.signature κs) → Unit {0} → Res P.signature κs → AtExit P κs → SProp 𝓤) (ps : AllPassed ss) where
        abbrev room : Ptr → Unit {0} → SProp 𝓤
        room p g = sem 𝓛 (room_at Row p)

        pub room_call : (k : Callee) (e : Fn) → Closed 𝓤 H 𝓣.C 𝓣.Λ k e
            → ((κs : Lfts n) (qs : Shares n) (bounds : AllOutlive n os κs) (a : Denots (types_at ss κs)) (b o : ℕ) → Typing κs ss ps a → Wrote (Unit {0}) room ensures ps κs qs bounds a tt b o
            → ent 𝓤 (sep 𝓤 (sep 𝓤 (sep 𝓤 (alive 𝓛 P.signature κs qs) (sem 𝓛 (owns (types_at ss κs) a (values κs ss ps a)))) (emp 𝓤)) (sem 𝓛 (room_at Row (block_ptr b o))))
            (Runs (Unit {0}) room ensures ps κs qs bounds a tt b o e))
            → Meets 𝓛 P.signature (𝓣.C k) (closing 𝓛 P (c (Unit {0}) room ensures ps))
        room_call k e closed walk = pointed_call (Unit {0}) room ensures ps (λ g. id⊢ 𝓤 _) k e closed (λ κs qs bounds a g b o typed.
            qed 𝓛 (‵ (room_at Row (block_ptr b o)) ∷ raw (alive 𝓛 P.signature κs qs) ∷ ‵ (owns (types_at ss κs) a (values κs ss ps a)) ∷ []) {P = Runs (Unit {0}) room ensures ps κs qs bounds a tt b o e} (
            move ! (1 ∷ 2 ∷ []) $ join ! $ nothing ! $ move ! (1 ∷ 0 ∷ []) $ join ! $ by ! (walk κs qs bounds a b o typed (wrote (Unit {0}) room ensures ps κs qs bounds a tt b o))))

-- A call, and what it gives: [the result; the tokens; the last values; what it ensures].
module _ {M : Type 1} {𝓤 : Ura M} {𝓛 : Logic 𝓤} {K : Type 0} {Γ : List (Item 𝓤)} {E : Env 𝓤 𝓛.H} {C : Calls 𝓤 𝓛.H} {Λ : Loops 𝓤 𝓛.H} {f : Callee} {xs : List Opd} {d : Place} {q : Post 𝓤 𝓛.H} {rest : Body} where
  pub calls_for : K → FmC 𝓤 𝓛.H 𝓛.laws C → (U : Ended) (c : Clauses 𝓤 U) → Triple 𝓤 (C f) (triple_of 𝓛 U.signature (closing 𝓛 U c)) → (z : (triple_of 𝓛 U.signature (closing 𝓛 U c)).Ghost)
      → Opds K 𝓛 (raw ((triple_of 𝓛 U.signature (closing 𝓛 U c)).pre z) ∷ Γ) E xs ((triple_of 𝓛 U.signature (closing 𝓛 U c)).args z)
      → ((v : Val) (r : Res U.signature z.0.0) (ws : Lasts U z.0.0 z.0.3) → Is (type_at U.signature.result z.0.0) r (v ∷ [])
      → Seq K 𝓛 (‵ ((type_at U.signature.result z.0.0).own_val r (v ∷ [])) ∷ raw (alive 𝓛 U.signature z.0.0 z.0.1) ∷ ‵ (lasts U z.0.0 z.0.3 ws) ∷ raw ((c z.0.0 z.0.3).ensures z.1 r (at_exit U z.0.0 z.0.3 ws)) ∷ Γ) (lands C Λ E d v rest q))
      → Seq K 𝓛 (raw ((triple_of 𝓛 U.signature (closing 𝓛 U c)).pre z) ∷ Γ) (runs C Λ E (seq (call f xs d) rest) q)
  calls_for t fm U c met z os k = calls_at t fm (triple_of 𝓛 U.signature (closing 𝓛 U c)) met z os (λ v.
      use1 𝓛 (later (some (λ (r : Res U.signature z.0.0). (raw (alive 𝓛 U.signature z.0.0 z.0.1) ⊛ ‵ ((type_at U.signature.result z.0.0).own_val r (v ∷ []))) ⊛
      some (λ (ws : Lasts U z.0.0 z.0.3). ‵ (lasts U z.0.0 z.0.3 ws) ⊛ raw ((c z.0.0 z.0.3).ensures z.1 r (at_exit U z.0.0 z.0.3 ws)))))) (id⊢ 𝓤 _) $
      await t tt $ pick t (λ r. split t $ move t (1 ∷ []) $ pick t (λ ws. split t $ move t (2 ∷ []) $ split t $ move t (1 ∷ []) $
      peeks t (type_at U.signature.result z.0.0) (Is (type_at U.signature.result z.0.0)) (shows 𝓛 (type_at U.signature.result z.0.0)) r (v ∷ []) (λ is. k v r ws is))))

-- an answer is of its type
pub answer : {M : Type 1} {𝓤 : Ura M} (𝓛 : Logic 𝓤) (r : Answer.Denot) (v : Val) → Is Answer r (v ∷ []) → T (has_ty (lone Answer.mir) v) × WT v
answer 𝓛 r v is = ((the_row_laws.lawful 𝓛).typed r (v ∷ []) is).0
