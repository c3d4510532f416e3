-- The pointers become the references that the call has, and the other parameters go on.
use Rattle.debctl_ffi.proofs.HandsOn.{[], ◌∷◌, refl, id⊢, triple_of, at_exit, framed, raw, ◌$◌, ◌∵◌, !, qed, by, enter, of_opd, addr, stop, fld, hop, from, no_more, and_then, returns, alloc_all, pass_all, free_all, look_at, look_in_at, get, get_in, through, sets, lands_as, agg, sub, whole, vptr, 𝓣, AllPassed, values, calls_for, answer, named, ShrSlice, w8, u8, usize, number, slice, mut_slice, mut_ref}
use Rattle.debctl_ffi.proofs.LentTwice.{but_two, lent_twice}
use Rattle.debctl_ffi.specs.contracts.loaded.Loaded.{the_row as Row}
use Rattle.debctl_ffi.specs.contracts.options.deb_index_unmet_with as f
use Rattle.debctl_ffi.proofs.options.deb_index_unmet_with.Statement.{statement}
use Rattle.debctl_ffi.proofs.options.deb_index_unmet_with.Code as code
use Rattle.debctl_ffi.specs.contracts.options.unmet_with as callee
use Rattle.debctl_ffi.proofs.options.unmet_with.Met.{met}

pub deb_index_unmet_with_spec : {M : Type 1} → statement M
deb_index_unmet_with_spec 𝓤 𝓛 𝓜 𝓡 wired =
    let c = f.clauses 𝓛 𝓜.mem 𝓡.returns in let d = callee.clauses 𝓛 𝓜.mem 𝓡.returns in let G = triple_of 𝓛 callee.signature (callee.spec 𝓛 𝓜.mem 𝓡.returns) in
    let ss = but_two f.signature.params in
    let ps : AllPassed ss = (number w8, (number w8, (slice 0 tt (λ κs. u8), (slice 1 tt (λ κs. u8), (slice 2 tt (λ κs. ShrSlice (named 3) κs.1.1.1.0 u8), (slice 4 tt (λ κs. ShrSlice (named 5) κs.1.1.1.1.1.0 u8), (slice 6 tt (λ κs. u8), (mut_slice 7 tt (λ κs. u8), (mut_ref 8 tt (λ κs. usize), tt))))))))) in
    lent_twice 𝓛 𝓜 𝓡 f.ended Row (λ κs a. (c κs a).ensures) ps f.Key.name code.function (code.unfolded 𝓤 𝓛.H 𝓜 𝓡 wired) (λ κs qs bounds a g b o b' o' typed back.
    let z : G.Ghost = (((g.first.lifetime, (g.second.lifetime, κs)), (g.first.share, (g.second.share, qs)), bounds, (record { ref_ptr = (b, o); now = g.first.value }, (record { ref_ptr = (b', o'); now = g.second.value }, a)), (vptr b o ∷ [], (vptr b' o' ∷ [], values κs ss ps a))), tt) in
    qed 𝓛 (raw (G.pre z) ∷ []) ∵ enter ! _ _ _ _ _ $ alloc_all ! (λ l. pass_all ! refl ((tt, tt), ((tt, tt), typed)) $
    sets ! (of_opd ! (get ! refl)) refl (tt, tt) $ sets ! (addr ! (through ! refl (stop !))) refl (tt, tt) $
    sets ! (of_opd ! (get ! refl)) refl (tt, tt) $ sets ! (addr ! (through ! refl (stop !))) refl (tt, tt) $
    sets ! (addr ! (from ! (fld ! refl (hop ! (look_in_at ! 10 (sub ! 0 refl (whole !))) (stop !))))) refl (tt, tt) $
    sets ! (agg ! (and_then ! (get ! refl) (and_then ! (get_in ! (fld ! refl (stop !)) (sub ! 1 refl (whole !))) (no_more !)))) refl typed.1.1.1.1.1.1.1.0 $
    sets ! (addr ! (through ! refl (stop !))) refl (tt, tt) $
    calls_for ! (framed 𝓤 𝓛.H 𝓜 (𝓣 𝓛 𝓜 𝓡)) callee.ended d (met 𝓤 𝓛 𝓜 𝓡 (code.calls-debctl_ffi::options::unmet_with 𝓡.env wired)) z (and_then ! (get ! refl) (and_then ! (get ! refl) (and_then ! (get ! refl) (and_then ! (get ! refl) (and_then ! (get ! refl) (and_then ! (get ! refl) (and_then ! (get ! refl) (and_then ! (get ! refl) (and_then ! (get ! refl) (and_then ! (get ! refl) (and_then ! (get ! refl) (no_more !)))))))))))) (λ v r ws is.
    lands_as ! refl refl (answer 𝓛 r v is) $ returns ! (look_at ! 0 refl) $ free_all ! refl $
    by ! (back v r ws ((d z.0.0 z.0.3).ensures tt r (at_exit callee.ended z.0.0 z.0.3 ws)) (id⊢ 𝓤 _)))))
