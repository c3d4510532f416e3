-- The pointer becomes the reference that the call has, and the other parameters go on.
use Rattle.debctl_ffi.proofs.HandsOn.{[], ◌∷◌, refl, id⊢, triple_of, at_exit, framed, raw, ◌$◌, ◌∵◌, !, qed, by, enter, of_opd, addr, stop, no_more, and_then, returns, alloc_all, pass_all, free_all, look_at, get, through, sets, lands_as, vptr, 𝓣, AllPassed, but_first, values, lent_call, calls_for, answer, w64, usize, number, mut_ref}
use Rattle.debctl_ffi.specs.contracts.loaded.Loaded.{the_row as Row}
use Rattle.debctl_ffi.specs.contracts.more.deb_index_file as f
use Rattle.debctl_ffi.proofs.more.deb_index_file.Statement.{statement}
use Rattle.debctl_ffi.proofs.more.deb_index_file.Code as code
use Rattle.debctl_ffi.specs.contracts.loaded.Loaded.file_of as callee
use Rattle.debctl_ffi.proofs.loaded.Loaded.file_of.Met.{met}

pub deb_index_file_spec : {M : Type 1} → statement M
deb_index_file_spec 𝓤 𝓛 𝓜 𝓡 wired =
    let c = f.clauses 𝓛 𝓜.mem 𝓡.returns in let d = callee.clauses 𝓛 𝓜.mem 𝓡.returns in let G = triple_of 𝓛 callee.signature (callee.spec 𝓛 𝓜.mem 𝓡.returns) in
    let ss = but_first f.signature.params in let ps : AllPassed ss = (number w64, (mut_ref 0 tt (λ κs. usize), tt)) in
    lent_call 𝓛 𝓜 𝓡 f.ended Row (λ κs a. (c κs a).ensures) ps f.Key.name code.function (code.unfolded 𝓤 𝓛.H 𝓜 𝓡 wired) (λ κs qs bounds a g b o typed back.
    let z : G.Ghost = (((g.lifetime, κs), (g.share, qs), bounds, (record { ref_ptr = (b, o); now = g.value }, a), (vptr b o ∷ [], values κs ss ps a)), tt) in
    qed 𝓛 (raw (G.pre z) ∷ []) ∵ enter ! _ _ _ _ _ $ alloc_all ! (λ l. pass_all ! refl ((tt, tt), typed) $
    sets ! (of_opd ! (get ! refl)) refl (tt, tt) $ sets ! (addr ! (through ! refl (stop !))) refl (tt, tt) $
    sets ! (addr ! (through ! refl (stop !))) refl (tt, tt) $
    calls_for ! (framed 𝓤 𝓛.H 𝓜 (𝓣 𝓛 𝓜 𝓡)) callee.ended d (met 𝓤 𝓛 𝓜 𝓡 (code.calls-debctl_ffi::loaded::Loaded::file_of 𝓡.env wired)) z (and_then ! (get ! refl) (and_then ! (get ! refl) (and_then ! (get ! refl) (no_more !)))) (λ v r ws is.
    lands_as ! refl refl (answer 𝓛 r v is) $ returns ! (look_at ! 0 refl) $ free_all ! refl $
    by ! (back v r ws ((d z.0.0 z.0.3).ensures tt r (at_exit callee.ended z.0.0 z.0.3 ws)) (id⊢ 𝓤 _)))))
