-- The value is read from where the pointer points to, and handed to the call.
use Rattle.debctl_ffi.proofs.HandsOn.{[], ◌∷◌, List, refl, triple_of, framed, raw, ‵, ◌$◌, ◌∵◌, !, qed, by, move, keep, use1, nothing, fjoin, feq_i, enter, of_opd, stop, no_more, and_then, returns, alloc_all, pass_all, free_all, look_at, get, through, sets, lands_as, load, look, unit_lit, 𝓣, calls_for, full_share, fat, lone, Val, vunit, room_at, block_ptr, held_call, pointer, ends, ap, only}
use Rattle.debctl_ffi.specs.contracts.reader.Reader.{the_row as Row}
use Rattle.debctl_ffi.proofs.reader.Reader.TheLaws.{the_row_laws}
use Rattle.debctl_ffi.specs.contracts.feed.deb_reader_free as f
use Rattle.debctl_ffi.proofs.feed.deb_reader_free.Statement.{statement}
use Rattle.debctl_ffi.proofs.feed.deb_reader_free.Code as code
use Rattle.debctl_ffi.specs.contracts.reader.discard as callee
use Rattle.debctl_ffi.proofs.reader.discard.Met.{met}

pub deb_reader_free_spec : {M : Type 1} → statement M
deb_reader_free_spec 𝓤 𝓛 𝓜 𝓡 wired =
    let c = f.clauses 𝓛 𝓜.mem 𝓡.returns in let d = callee.clauses 𝓛 𝓜.mem 𝓡.returns in let G = triple_of 𝓛 callee.signature (callee.spec 𝓛 𝓜.mem 𝓡.returns) in
    held_call 𝓛 𝓜 𝓡 f.ended Row refl (the_row_laws.lawful 𝓛) (λ κs a. (c κs a).ensures) tt f.Key.name code.function (code.unfolded 𝓤 𝓛.H 𝓜 𝓡 wired) (λ κs qs bounds a x b o v typed good wrote.
    let z : G.Ghost = ((κs, qs, bounds, (x, tt), (v ∷ [], tt)), tt) in
    qed 𝓛 (raw (G.pre z) ∷ ‵ (fat full_share (lone Row.mir) b o v) ∷ []) ∵ enter ! _ _ _ _ _ $ alloc_all ! (λ l. pass_all ! refl ((tt, tt), tt) $
    sets ! (of_opd ! (get ! refl)) refl (tt, tt) $ sets ! (of_opd ! (load ! (through ! refl (stop !)) (look ! 1 refl))) refl good $
    calls_for ! (framed 𝓤 𝓛.H 𝓜 (𝓣 𝓛 𝓜 𝓡)) callee.ended d (met 𝓤 𝓛 𝓜 𝓡 (code.calls-debctl_ffi::reader::discard 𝓡.env wired)) z (and_then ! (get ! refl) (no_more !)) (λ w r ws is.
    lands_as ! (ap only is) refl (tt, tt) $ sets ! (of_opd ! (unit_lit !)) refl (tt, tt) $ returns ! (look_at ! 0 refl) $ free_all ! refl $
    move ! (4 ∷ []) $ use1 𝓛 (‵ (room_at Row (block_ptr b o))) (𝓛.laws.at_room (lone Row.mir) b o v) $ nothing ! $ nothing ! $ fjoin ! $
    -- [nothing more of the pointer; the room; the result; the tokens]
    feq_i ! (List Val) (vunit ∷ []) (vunit ∷ []) refl $ keep ! (0 ∷ 4 ∷ 1 ∷ 2 ∷ []) $ by ! (ends 𝓛 𝓜 𝓡 f.ended c (pointer, tt) κs qs bounds (block_ptr b o, tt) x vunit tt (tt, tt)))))
