-- A line that is looked for in what comes of a source, and what is answered of it.
use Rattle.deb_syntax.proofs.Common.{◌≡◌, ◌≢◌, ℕ, ◌+◌, ◌-◌, ◌<◌, ◌≤◌, ◌⊎◌, inl, inr, true, List, [], ◌∷◌, ◌++◌, Option, Some, None, length, take, drop, slice_range, refl, sym, ap, ◌∙◌, subst, append_assoc, append-nil, arith, length-append, length-drop, length-take-le, take_all, drop_at, take_at, take-append-drop, take-append-le, drop-drop, drop_more, false≢true, IsTrue, IsFalse, All-append, Consumes, HasNoNewline, newline, Comes, CursorState, Sees, Takes, room_of, had, piece_limit, Dropped, NextLine, Visible, Blank, Cut, Ended, Overlong, Whole, CutsLine, Describes, DropsLong, IsEndedLine, IsNear, IsNewline, IsNextLine, KeepsCounts, ReadsLine, drop-length, drop_all, eq-eqb, get_or, length-take}
use Rattle.std.proofs.lemmas.List.{get_or-take}
use Rattle.deb_base.specs.Bodies.{paragraph_limit, file_limit}
use Rattle.deb_syntax.proofs.KeptLines.{ending_some, no_elements, not_empty}
use Rattle.deb_syntax.proofs.Slices.{drop-front, slice_range-front, slice_range-parts, slice_range-rest}
use Rattle.deb_syntax.proofs.Takings.{consumes_takes, still, still-less, takes_more, takes_none, takes_then}

-- after what has no newline is no more than what comes after it
near-piece : (seen piece front more : List ℕ) → HasNoNewline seen → seen ++ piece ≡ front ++ newline ∷ more → length more < length piece
near-piece [] piece front more h e = omega (arith, ap length e, length-append front (newline ∷ more))
near-piece (b ∷ seen) piece [] more h e =
    let b_is : b ≡ newline = cc in
    absurd (false≢true (sym h.0 ∙ eq-eqb b newline b_is))
near-piece (b ∷ seen) piece (c ∷ front) more h e = near-piece seen piece front more h.1 (ap (drop 1) e)

pub near-line : (line more : List ℕ) → HasNoNewline line → length more ≤ piece_limit + 1 → IsNear (line ++ more)
near-line line more h short front rest e = omega (arith, near-piece line more front rest h e, short)

pub near-short : (bytes : List ℕ) → length bytes ≤ piece_limit → IsNear bytes
near-short bytes short = near-line [] bytes tt (omega (arith, short))

consumes_none : (o : Option (List ℕ)) → Consumes o o []
consumes_none None = tt
consumes_none (Some bytes) = refl

consumes_then : (a b c : Option (List ℕ)) (xs ys : List ℕ) → Consumes a b xs → Consumes b c ys → Consumes a c (xs ++ ys)
consumes_then None b c xs ys one two = tt
consumes_then (Some _) None c xs ys one two = absurd one
consumes_then (Some _) (Some _) None xs ys one two = absurd two
consumes_then (Some _) (Some _) (Some rest) xs ys one two = one ∙ ap (λ zs. xs ++ zs) two ∙ sym (append_assoc xs ys rest)

-- So much has come, the first of the line's bytes may have been dropped, and none of them is a newline.
pub record Scanned (kept : ℕ) (before : CursorState) (left : Option (List ℕ)) (dropped : Dropped) (seen : ℕ) (cursor : CursorState) (left_now : Option (List ℕ)) : Type 0 where
  pub came : List ℕ
  pub bytes : List ℕ
  pub consumed : Consumes left left_now came
  pub quiet : IsTrue before.ended → came ≡ []
  pub whole : before.unread ++ came ≡ take kept before.unread ++ (bytes ++ drop kept cursor.unread)
  pub front : take kept cursor.unread ≡ take kept before.unread
  pub within : kept ≤ length before.unread
  pub low : kept ≤ seen
  pub high : seen ≤ length cursor.unread
  pub describes : Describes dropped bytes
  pub no_newline : HasNoNewline (bytes ++ slice_range cursor.unread kept seen)
  pub long : (bytes ≡ []) ⊎ (paragraph_limit ≤ kept + length bytes)
  pub near : IsNear (drop seen cursor.unread)
  pub room : cursor.bytes + (seen + dropped.len) ≤ file_limit
  pub reach : had cursor + dropped.len ≤ file_limit + piece_limit
  pub counts : KeepsCounts before left cursor left_now

pub scanned-start : (kept : ℕ) (before : CursorState) (left : Option (List ℕ)) (dropped : Dropped) → dropped ≡ record { len = 0; blank = true } → kept ≤ length before.unread → before.bytes + kept ≤ file_limit → IsNear (drop kept before.unread) → had before ≤ file_limit + piece_limit → Scanned kept before left dropped kept before left
scanned-start kept before left dropped is within room near reach = record {
  came = [];
  bytes = [];
  consumed = consumes_none left;
  quiet = λ e. refl;
  whole = append-nil before.unread ∙ sym (take-append-drop kept before.unread);
  front = refl;
  within = within;
  low = omega arith;
  high = within;
  describes = record { len = ap (λ (d : Dropped). d.len) is; blank = ap (λ (d : Dropped). d.blank) is };
  no_newline = subst HasNoNewline (sym (nothing_between before.unread kept)) tt;
  long = inl refl;
  near = near;
  room = omega (arith, room, ap (λ (d : Dropped). d.len) is);
  reach = omega (arith, reach, ap (λ (d : Dropped). d.len) is);
  counts = record { bytes = refl; lines = refl; ended = λ e. e; at_end = λ a. a };
}
  where
    nothing_between : (xs : List ℕ) (n : ℕ) → slice_range xs n n ≡ []
    nothing_between xs n = let none : n - n ≡ 0 = omega arith in ap (λ k. take k (drop n xs)) none

module _ (kept : ℕ) (before : CursorState) (left : Option (List ℕ)) (dropped : Dropped) (seen : ℕ) (cursor : CursorState) (left_now : Option (List ℕ)) (s : Scanned kept before left dropped seen cursor left_now) where
  -- no more was taken than came
  pub scanned-takes : Takes (had before) left (had cursor + dropped.len) left_now
  scanned-takes =
      takes_then _ _ _ _ _ _ _ _ (takes_none (had before) (had before) left (omega arith)) (consumes_takes left left_now s.came s.consumed)
      (omega (arith, s.counts.bytes, s.describes.len, ap length s.whole, length-append before.unread s.came, length-append (take kept before.unread) (s.bytes ++ drop kept cursor.unread), length-append s.bytes (drop kept cursor.unread), length-take-le kept before.unread s.within, length-drop kept cursor.unread, s.low, s.high))

  -- also where a read fails
  pub failed-takes : (left_after : Option (List ℕ)) → Consumes left_now left_after [] → Takes (had before) left (file_limit + piece_limit) left_after
  failed-takes left_after kept_left = takes_then _ _ _ _ _ _ _ _ scanned-takes (consumes_takes left_now left_after [] kept_left) (omega (arith, s.reach))

  pub reads-takes : Takes (had before) left (file_limit + piece_limit) left_now
  reads-takes = takes_more _ _ _ _ _ _ scanned-takes (omega arith) s.reach

  -- what is answered of a line that was read
  answered : (r : ReadsLine kept before left cursor left_now) (part ended : ℕ) → ended ≡ length r.ending → kept + part + ended ≤ length cursor.unread → drop (kept + part) cursor.unread ≡ r.ending ++ r.more → (kept + length r.line < paragraph_limit → (part ≡ length r.line) × (cursor.unread ≡ before.unread ++ r.came)) → (result : NextLine) → IsEndedLine r.line kept part ended result → IsNextLine kept before left result cursor left_now
  answered r part ended ended_is within behind whole (Blank bytes next) e =
      let at : next ≡ kept + part + ended = e.3 in
      let over : (kept + part) + length r.ending ≡ next = omega (arith, at, ended_is) in (
        r,
        e.0,
        e.1,
        omega (arith, e.2, ended_is),
        record {
          kept_same = s.front;
          behind = ap (λ n. drop n cursor.unread) (sym over) ∙ sym (drop-drop (length r.ending) (kept + part) cursor.unread) ∙ ap (drop (length r.ending)) behind ∙ drop_at r.ending r.more (length r.ending) refl;
          order = omega (arith, at);
          within = omega (arith, at, within);
        },
      )
  answered r part ended ended_is within behind whole (Whole end next) e =
      let w = whole e.1 in
      (r, e.0, e.1, omega (arith, e.2, w.0), omega (arith, e.3, ended_is), w.1)
  answered r part ended ended_is within behind whole (Overlong len end) e =
      (r, e.0, e.1, e.2, record { kept_same = s.front; behind = ap (λ n. drop n cursor.unread) e.3 ∙ behind; order = omega (arith, e.3); within = omega (arith, e.3, within) })
  answered r part ended ended_is within behind whole Cut e = absurd e
  answered r part ended ended_is within behind whole Ended e =
      absurd (omega (arith, ending_some r.line r.ending r.more cursor.ended r.no_newline r.ends, ap length e.0, e.1, ended_is))

  -- nothing of a line that is kept was dropped
  whole_line : (part : List ℕ) → kept + length (s.bytes ++ part) < paragraph_limit → (length part ≡ length (s.bytes ++ part)) × (cursor.unread ≡ before.unread ++ s.came)
  whole_line part short = go s.long
    where
      go : (s.bytes ≡ []) ⊎ (paragraph_limit ≤ kept + length s.bytes) → (length part ≡ length (s.bytes ++ part)) × (cursor.unread ≡ before.unread ++ s.came)
      go (inl none) = (
        ap (λ zs. length (zs ++ part)) (sym none),
        sym (take-append-drop kept cursor.unread) ∙ ap (λ zs. zs ++ drop kept cursor.unread) s.front ∙ ap (λ zs. take kept before.unread ++ (zs ++ drop kept cursor.unread)) (sym none) ∙ sym s.whole,
      )
      go (inr long) = absurd (omega (arith, short, long, length-append s.bytes part))

  module _ (visible : Visible) (v : Sees cursor dropped.len visible) where
    abbrev pub room : ℕ
    room = room_of cursor dropped.len

    seen_length : length visible.bytes.now ≡ length (take room cursor.unread)
    seen_length = ap length v.seen

    pub seen_within : seen ≤ length visible.bytes.now
    seen_within = omega (arith, seen_length, length-take room cursor.unread, s.high, s.room)

    pub seen_short : length visible.bytes.now + dropped.len ≤ file_limit
    seen_short = omega (arith, seen_length, length-take room cursor.unread, s.room)

    -- with its newline
    pub line_found : (end : ℕ) (part : List ℕ) → IsNewline visible.bytes.now seen end → part ≡ slice_range visible.bytes.now kept end → (result : NextLine) → IsEndedLine (s.bytes ++ part) kept (length part) 1 result → IsNextLine kept before left result cursor left_now
    line_found end part f part_is result e =
        let xs = cursor.unread in
        let size : length visible.bytes.now ≡ length (take room xs) = seen_length in
        let taken = length-take room xs in
        let in_room : end + 1 ≤ room = omega (arith, f.within, size, taken) in
        let in_xs : end + 1 ≤ length xs = omega (arith, f.within, size, taken) in
        let order : kept ≤ end = omega (arith, s.low, f.after) in
        let same : part ≡ slice_range xs kept end = part_is ∙ ap (λ zs. slice_range zs kept end) v.seen ∙ slice_range-front xs room kept end order (omega (arith, in_room)) (omega (arith, in_xs)) in
        let here : get_or xs end 0 ≡ newline = sym (get_or-take room xs end 0 (omega (arith, in_room))) ∙ ap (λ zs. get_or zs end 0) (sym v.seen) ∙ f.here in
        let behind : drop end xs ≡ newline ∷ drop (end + 1) xs = drop_more xs end 0 (omega (arith, in_xs)) ∙ ap (λ b. b ∷ drop (end + 1) xs) here in
        let none : HasNoNewline (slice_range xs seen end) = subst HasNoNewline (ap (λ zs. slice_range zs seen end) v.seen ∙ slice_range-front xs room seen end f.after (omega (arith, in_room)) (omega (arith, in_xs))) f.none in
        let line_none : HasNoNewline (s.bytes ++ part) = subst HasNoNewline (append_assoc s.bytes _ _ ∙ ap (λ zs. s.bytes ++ zs) (slice_range-parts xs kept seen end s.low f.after (omega (arith, in_xs)) ∙ sym same)) (All-append _ _ _ s.no_newline none) in
        let len : length part ≡ end - kept = ap length same ∙ length-take-le (end - kept) (drop kept xs) (omega (arith, length-drop kept xs, in_xs)) in
        let r : ReadsLine kept before left cursor left_now = record {
          came = s.came;
          line = s.bytes ++ part;
          ending = newline ∷ [];
          more = drop (end + 1) xs;
          consumed = s.consumed;
          quiet = s.quiet;
          whole = s.whole ∙ ap (λ zs. take kept before.unread ++ zs) (ap (λ zs. s.bytes ++ zs) (sym (slice_range-rest xs kept end order (omega (arith, in_xs))) ∙ ap (λ zs. zs ++ drop end xs) (sym same) ∙ ap (λ zs. part ++ zs) behind) ∙ sym (append_assoc s.bytes part (newline ∷ drop (end + 1) xs)));
          no_newline = line_none;
          ends = inl refl;
          near = s.near (slice_range xs seen end) (drop (end + 1) xs) (sym (slice_range-rest xs seen end f.after (omega (arith, in_xs))) ∙ ap (λ zs. slice_range xs seen end ++ zs) behind);
          room = omega (arith, s.counts.bytes, s.describes.len, len, order, in_room, length-append s.bytes part);
        } in
        let at : kept + length part ≡ end = omega (arith, len, order) in
        answered r (length part) 1 refl (omega (arith, at, in_xs)) (ap (λ n. drop n xs) at ∙ behind) (λ short. whole_line part short) result e

    module _ (none : HasNoNewline (drop seen visible.bytes.now)) where
      -- all of it that may be looked at
      rest_none : HasNoNewline (s.bytes ++ slice_range cursor.unread kept (length visible.bytes.now))
      rest_none =
          let xs = cursor.unread in
          let n = length visible.bytes.now in
          let taken = length-take room xs in
          let in_xs : n ≤ length xs = omega (arith, seen_length, taken) in
          let after : drop seen visible.bytes.now ≡ slice_range xs seen n = sym (take_all (n - seen) (drop seen visible.bytes.now) (omega (arith, length-drop seen visible.bytes.now))) ∙ ap (λ zs. slice_range zs seen n) v.seen ∙ slice_range-front xs room seen n seen_within (omega (arith, seen_length, taken)) in_xs in
          subst HasNoNewline (append_assoc s.bytes _ _ ∙ ap (λ zs. s.bytes ++ zs) (slice_range-parts xs kept seen n s.low seen_within in_xs)) (All-append _ _ _ s.no_newline (subst HasNoNewline after none))

      -- beyond what a file may have
      pub line_cut : room < length cursor.unread → CutsLine kept before left left_now
      line_cut beyond =
          let xs = cursor.unread in
          let n : length visible.bytes.now ≡ room = seen_length ∙ length-take-le room xs (omega (arith, beyond)) in
          let order : kept ≤ room = omega (arith, s.low, seen_within, n) in
          let part = slice_range xs kept room in
          let len : length part ≡ room - kept = length-take-le (room - kept) (drop kept xs) (omega (arith, length-drop kept xs, beyond)) in
          record {
            came = s.came;
            line = s.bytes ++ part;
            more = drop room xs;
            consumed = s.consumed;
            quiet = s.quiet;
            whole = s.whole ∙ ap (λ zs. take kept before.unread ++ zs) (ap (λ zs. s.bytes ++ zs) (sym (slice_range-rest xs kept room order (omega (arith, beyond)))) ∙ sym (append_assoc s.bytes part (drop room xs)));
            no_newline = subst (λ k. HasNoNewline (s.bytes ++ slice_range xs kept k)) n rest_none;
            beyond = omega (arith, beyond, length-drop room xs);
            room = omega (arith, s.counts.bytes, s.describes.len, len, order, s.room, length-append s.bytes part);
          }

      module _ (within : length cursor.unread ≤ room) where
        all_seen : visible.bytes.now ≡ cursor.unread
        all_seen = v.seen ∙ take_all room cursor.unread within

        all_none : HasNoNewline (s.bytes ++ drop kept cursor.unread)
        all_none = subst (λ zs. HasNoNewline (s.bytes ++ zs)) (take_all (length cursor.unread - kept) (drop kept cursor.unread) (omega (arith, length-drop kept cursor.unread))) (subst (λ zs. HasNoNewline (s.bytes ++ slice_range cursor.unread kept (length zs))) all_seen rest_none)

        -- with the file, or there is none
        pub line_at_end : (part : List ℕ) → part ≡ drop kept visible.bytes.now → IsTrue cursor.ended → (result : NextLine) → IsEndedLine (s.bytes ++ part) kept (length part) 0 result → IsNextLine kept before left result cursor left_now
        line_at_end part part_is ended result e = go (s.bytes ++ part) refl
          where
            same : part ≡ drop kept cursor.unread
            same = part_is ∙ ap (drop kept) all_seen

            all : kept + length part ≡ length cursor.unread
            all = omega (arith, ap length same, length-drop kept cursor.unread, s.low, s.high)

            reads : s.bytes ++ part ≢ [] → ReadsLine kept before left cursor left_now
            reads some = record {
              came = s.came;
              line = s.bytes ++ part;
              ending = [];
              more = [];
              consumed = s.consumed;
              quiet = s.quiet;
              whole = s.whole ∙ ap (λ zs. take kept before.unread ++ zs) (ap (λ zs. s.bytes ++ zs) (sym same) ∙ sym (append-nil (s.bytes ++ part)));
              no_newline = subst (λ zs. HasNoNewline (s.bytes ++ zs)) (sym same) all_none;
              ends = inr (refl, refl, ended, some);
              near = omega arith;
              room = omega (arith, s.counts.bytes, s.describes.len, all, within, s.room, length-append s.bytes part);
            }

            none_left : s.bytes ++ part ≡ [] → (kept ≡ length before.unread) × (cursor.unread ≡ before.unread) × (s.came ≡ [])
            none_left none =
                let sizes : length s.bytes + length part ≡ 0 = sym (length-append s.bytes part) ∙ ap length none in
                let count : kept ≡ length before.unread = omega (arith, sizes, all, ap length s.whole, length-append before.unread s.came, length-append (take kept before.unread) (s.bytes ++ drop kept cursor.unread), length-append s.bytes (drop kept cursor.unread), ap length same, length-take-le kept before.unread s.within, s.within) in (
                  count,
                  sym (take_all kept cursor.unread (omega (arith, sizes, all))) ∙ s.front ∙ take_all kept before.unread (omega (arith, count)),
                  no_elements s.came (omega (arith, count, sizes, all, ap length s.whole, length-append before.unread s.came, length-append (take kept before.unread) (s.bytes ++ drop kept cursor.unread), length-append s.bytes (drop kept cursor.unread), ap length same, length-take-le kept before.unread s.within)),
                )

            empty : s.bytes ++ part ≡ [] → (r : NextLine) → IsEndedLine (s.bytes ++ part) kept (length part) 0 r → IsNextLine kept before left r cursor left_now
            empty none (Blank bytes next) e = absurd (omega (arith, e.1, e.2, ap length none))
            empty none (Whole end next) e = absurd (not_empty (s.bytes ++ part) e.0 none)
            empty none (Overlong len end) e = absurd (not_empty (s.bytes ++ part) e.0 none)
            empty none Cut e = absurd e
            empty none Ended e = let n = none_left none in (n.0, n.1, ended, subst (Consumes left left_now) n.2 s.consumed)

            go : (line : List ℕ) → s.bytes ++ part ≡ line → IsNextLine kept before left result cursor left_now
            go [] is = empty is result e
            go (b ∷ line) is =
                answered (reads (λ none. let bad : b ∷ line ≡ [] = sym is ∙ none in cc)) (length part) 0 refl (omega (arith, all)) (ap (λ n. drop n cursor.unread) all ∙ drop-length cursor.unread) (λ short. whole_line part short) result e

        -- what is there of it is dropped if it is too long, and a piece comes
        pub scanned-more : (mid after : CursorState) (longer : Dropped) (seen_now : ℕ) (left_after : Option (List ℕ)) → IsFalse cursor.ended → DropsLong kept cursor dropped mid longer → seen_now ≡ length mid.unread → Comes mid left_now after left_after → Scanned kept before left longer seen_now after left_after
        scanned-more mid after longer seen_now left_after going d seen_is come = go d
          where
            step : (bytes : List ℕ) → mid.bytes ≡ cursor.bytes → mid.lines ≡ cursor.lines → kept ≤ length mid.unread → take kept mid.unread ≡ take kept cursor.unread → bytes ++ drop kept mid.unread ≡ s.bytes ++ drop kept cursor.unread → Describes longer bytes → (bytes ≡ []) ⊎ (paragraph_limit ≤ kept + length bytes) → Scanned kept before left longer seen_now after left_after
            step bytes same_bytes same_lines has_front front rest describes long =
                let sizes : length bytes + length (drop kept mid.unread) ≡ length s.bytes + length (drop kept cursor.unread) = sym (length-append bytes (drop kept mid.unread)) ∙ ap length rest ∙ length-append s.bytes (drop kept cursor.unread) in
                let dropped_mid = length-drop kept mid.unread in
                let dropped_now = length-drop kept cursor.unread in
                let behind : drop kept after.unread ≡ drop kept mid.unread ++ come.piece = ap (drop kept) come.unread ∙ drop-front kept mid.unread come.piece has_front in
                let seen_part : slice_range after.unread kept seen_now ≡ drop kept mid.unread = ap (λ zs. take (seen_now - kept) zs) behind ∙ take_at (drop kept mid.unread) come.piece (seen_now - kept) (omega (arith, dropped_mid, seen_is)) in
                let piece : drop seen_now after.unread ≡ come.piece = ap (drop seen_now) come.unread ∙ drop_at mid.unread come.piece seen_now (sym seen_is) in
                record {
                  came = s.came ++ come.piece;
                  bytes = bytes;
                  consumed = consumes_then left left_now left_after s.came come.piece s.consumed come.consumed;
                  quiet = λ e. absurd (false≢true (sym going ∙ s.counts.ended e));
                  whole = sym (append_assoc before.unread s.came come.piece) ∙ ap (λ zs. zs ++ come.piece) (s.whole ∙ ap (λ zs. take kept before.unread ++ zs) (sym rest)) ∙ append_assoc (take kept before.unread) (bytes ++ drop kept mid.unread) come.piece ∙ ap (λ zs. take kept before.unread ++ zs) (append_assoc bytes (drop kept mid.unread) come.piece ∙ ap (λ zs. bytes ++ zs) (sym behind));
                  front = ap (take kept) come.unread ∙ take-append-le kept mid.unread come.piece has_front ∙ front ∙ s.front;
                  within = s.within;
                  low = omega (arith, seen_is, has_front);
                  high = omega (arith, seen_is, ap length come.unread, length-append mid.unread come.piece);
                  describes = describes;
                  no_newline = subst (λ zs. HasNoNewline (bytes ++ zs)) (sym seen_part) (subst HasNoNewline (sym rest) all_none);
                  long = long;
                  near = subst IsNear (sym piece) (near-short come.piece come.short);
                  room = omega (arith, come.bytes, same_bytes, describes.len, s.describes.len, sizes, dropped_mid, dropped_now, seen_is, within, s.room, s.low, s.high, has_front);
                  reach = omega (arith, come.bytes, same_bytes, ap length come.unread, length-append mid.unread come.piece, describes.len, s.describes.len, sizes, dropped_mid, dropped_now, within, s.room, s.low, s.high, has_front, come.short);
                  counts = record {
                    bytes = come.bytes ∙ same_bytes ∙ s.counts.bytes;
                    lines = come.lines ∙ same_lines ∙ s.counts.lines;
                    ended = λ e. absurd (false≢true (sym going ∙ s.counts.ended e));
                    at_end = λ a e. come.at_end e;
                  };
                }

            go : DropsLong kept cursor dropped mid longer → Scanned kept before left longer seen_now after left_after
            go (inl (is, same, short)) = step s.bytes (ap (λ (c : CursorState). c.bytes) is) (ap (λ (c : CursorState). c.lines) is) (omega (arith, ap (λ (c : CursorState). length c.unread) is, s.low, s.high)) (ap (λ (c : CursorState). take kept c.unread) is) (ap (λ (c : CursorState). s.bytes ++ drop kept c.unread) is) (subst (λ d. Describes d s.bytes) (sym same) s.describes) s.long
            go (inr (keeps, long, longer_is)) =
                let none : drop kept mid.unread ≡ [] = ap (drop kept) keeps.unread ∙ drop_all kept (take kept cursor.unread) (omega (arith, length-take-le kept cursor.unread (omega (arith, s.low, s.high)))) in
                step (s.bytes ++ drop kept cursor.unread) keeps.bytes keeps.lines (omega (arith, ap length keeps.unread, length-take-le kept cursor.unread (omega (arith, s.low, s.high)))) (ap (take kept) keeps.unread ∙ take_all kept (take kept cursor.unread) (omega (arith, length-take-le kept cursor.unread (omega (arith, s.low, s.high))))) (ap (λ zs. (s.bytes ++ drop kept cursor.unread) ++ zs) none ∙ append-nil _) (longer_is s.bytes s.describes) (inr (omega (arith, long, s.describes.len, length-append s.bytes (drop kept cursor.unread), length-drop kept cursor.unread, s.low, s.high)))

        -- less may still come
        pub scanned-less : (mid after : CursorState) (longer : Dropped) (left_after : Option (List ℕ)) → IsFalse cursor.ended → DropsLong kept cursor dropped mid longer → Comes mid left_now after left_after → still (had after + longer.len) after.ended < still (had cursor + dropped.len) cursor.ended
        scanned-less mid after longer left_after going d come =
            let size : had after + longer.len ≡ (had cursor + dropped.len) + length come.piece = go d in
            subst (λ n. still n after.ended < still (had cursor + dropped.len) cursor.ended) (sym size) (subst (λ t. still ((had cursor + dropped.len) + length come.piece) after.ended < still (had cursor + dropped.len) t) (sym going) (still-less (had cursor + dropped.len) (length come.piece) after.ended (omega (arith, within, s.room)) come.more))
          where
            go : DropsLong kept cursor dropped mid longer → had after + longer.len ≡ (had cursor + dropped.len) + length come.piece
            go (inl (is, same, short)) = omega (arith, come.bytes, ap length come.unread, length-append mid.unread come.piece, ap (λ (c : CursorState). c.bytes) is, ap (λ (c : CursorState). length c.unread) is, ap (λ (d : Dropped). d.len) same)
            go (inr (keeps, long, longer_is)) = omega (arith, come.bytes, ap length come.unread, length-append mid.unread come.piece, keeps.bytes, ap length keeps.unread, length-take-le kept cursor.unread (omega (arith, s.low, s.high)), (longer_is s.bytes s.describes).len, s.describes.len, length-append s.bytes (drop kept cursor.unread), length-drop kept cursor.unread, s.low, s.high)

pub drops_short : (kept : ℕ) (cursor mid : CursorState) (dropped longer : Dropped) → kept ≤ paragraph_limit → kept ≤ length cursor.unread → DropsLong kept cursor dropped mid longer → length mid.unread ≤ paragraph_limit
drops_short kept cursor mid dropped longer short within (inl (is, same, less)) = omega (arith, less, ap (λ (c : CursorState). length c.unread) is)
drops_short kept cursor mid dropped longer short within (inr (keeps, long, longer_is)) = omega (arith, short, ap length keeps.unread, length-take-le kept cursor.unread within)
