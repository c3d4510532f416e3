-- The value is read from where the pointer points to, handed to the call, and what the call gives is written there.
use Rattle.debctl_ffi.proofs.HandsOn.{◌≡◌, [], ◌∷◌, refl, triple_of, at_exit, framed, raw, ‵, ◌$◌, ◌∵◌, !, qed, by, move, drop, use1, fsplit, enter, of_opd, addr, stop, no_more, and_then, returns, alloc_all, pass_all, free_all, look_at, get, through, sets, lands_as, load, look, init, assigns, unit_lit, 𝓣, AllPassed, but_first, values, calls_for, full_share, fat, lone, sep, ex_i, emp, guard_i, sem, SProp, vunit, lies_at, room_at, block_ptr, held_call, slice, mut_ref, u8, Answer}
use Rattle.debctl_ffi.specs.contracts.loaded.Loaded.{the_row as Row}
use Rattle.debctl_ffi.proofs.loaded.Loaded.TheLaws.{the_row_laws}
use Rattle.debctl_ffi.specs.contracts.more.deb_index_read_more as f
use Rattle.debctl_ffi.proofs.more.deb_index_read_more.Statement.{statement}
use Rattle.debctl_ffi.proofs.more.deb_index_read_more.Code as code
use Rattle.debctl_ffi.specs.contracts.loaded.Loaded.read_more as callee
use Rattle.debctl_ffi.proofs.loaded.Loaded.read_more.Met.{met}

pub deb_index_read_more_spec : {M : Type 1} → statement M
deb_index_read_more_spec 𝓤 𝓛 𝓜 𝓡 wired =
    let c = f.clauses 𝓛 𝓜.mem 𝓡.returns in let d = callee.clauses 𝓛 𝓜.mem 𝓡.returns in let G = triple_of 𝓛 callee.signature (callee.spec 𝓛 𝓜.mem 𝓡.returns) in
    let ss = but_first f.signature.params in let ps : AllPassed ss = (slice 0 tt (λ κs. u8), (mut_ref 1 tt (λ κs. Answer), tt)) in
    held_call 𝓛 𝓜 𝓡 f.ended Row refl (the_row_laws.lawful 𝓛) (λ κs a. (c κs a).ensures) ps f.Key.name code.function (code.unfolded 𝓤 𝓛.H 𝓜 𝓡 wired) (λ κs qs bounds a x b o v typed fits wrote.
    let z : G.Ghost = ((κs, qs, bounds, (x, a), (v ∷ [], values κs ss ps a)), tt) in
    qed 𝓛 (raw (G.pre z) ∷ ‵ (fat full_share (lone Row.mir) b o v) ∷ []) ∵ enter ! _ _ _ _ _ $ alloc_all ! (λ l. pass_all ! refl ((tt, tt), typed) $
    sets ! (of_opd ! (get ! refl)) refl (tt, tt) $ sets ! (of_opd ! (load ! (through ! refl (stop !)) (look ! 1 refl))) refl fits $ sets ! (addr ! (through ! refl (stop !))) refl (tt, tt) $
    calls_for ! (framed 𝓤 𝓛.H 𝓜 (𝓣 𝓛 𝓜 𝓡)) callee.ended d (met 𝓤 𝓛 𝓜 𝓡 (code.calls-debctl_ffi::loaded::Loaded::read_more 𝓡.env wired)) z
    (and_then ! (get ! refl) (and_then ! (get ! refl) (and_then ! (get ! refl) (no_more !)))) (λ w r ws is.
    let well = ((the_row_laws.lawful 𝓛).typed r (w ∷ []) is).0 in lands_as ! refl refl well $
    -- [what it gives; the tokens; the last values; what the call ensures; the cell]
    move ! (4 ∷ []) $ use1 𝓛 (‵ (room_at Row (block_ptr b o))) (𝓛.laws.at_room (lone Row.mir) b o v) $ move ! (1 ∷ 2 ∷ 3 ∷ 4 ∷ []) $
    sets ! (of_opd ! (get ! refl)) refl (tt, tt) $ sets ! (of_opd ! (get ! refl)) refl well $ assigns ! (of_opd ! (get ! refl)) (through ! refl (stop !)) (init ! 4 refl well) $
    sets ! (of_opd ! (unit_lit !)) refl (tt, tt) $ returns ! (look_at ! 0 refl) $ free_all ! refl $ move ! (2 ∷ []) $ fsplit ! $ drop ! $ move ! (1 ∷ 2 ∷ 0 ∷ []) $
    let Said : Row.Denot → SProp 𝓤 = λ it. (d κs (x, a)).ensures tt it (at_exit callee.ended κs (x, a) ws) in
    by ! (wrote w r tt (guard_i 𝓤 (vunit ∷ [] ≡ vunit ∷ []) (emp 𝓤) refl) (tt, ws.1) (Said r) (ex_i 𝓤 (λ (it : Row.Denot). sep 𝓤 (sem 𝓛 (lies_at Row full_share (block_ptr b o) it)) (Said it)) r)))))
