-- The lines of a text, each after a mark.
use Rattle.std.proofs.Common.{◌≡◌, ℕ, ◌+◌, ◌==◌, Bool, true, false, not, cond, List, [], ◌∷◌, ◌++◌, map, take, drop, Option, Some, None, refl, sym, ap, ◌∙◌, arith, suc}
use Rattle.std.proofs.lemmas.List.{append_assoc, drop-drop}
use Rattle.std.specs.FinMap.{find}
use Rattle.std.specs.List.{flat_map, prefix_len}
use Rattle.std.specs.Option.{option_map}
use Rattle.deb_base.specs.Bodies.{newline, with_byte}
use Rattle.deb_syntax.specs.Lines.{lines_of}
use Rattle.deb_syntax.specs.Meaning.{Entries, byte_order}
use Rattle.deb_diff.specs.Cuts.{rest_of}
use Rattle.deb_diff.specs.Marks.{lines_in, lines_of_rest}
use Rattle.deb_diff.specs.Values.{field_lines, lines_under, marked, new_mark, old_mark}
use Rattle.deb_diff.proofs.Rests.{find_rests, tail}

-- the number of bytes before the first newline
abbrev pub line_len : List ℕ → ℕ
line_len bs = prefix_len (λ b. not (b == 10)) bs

-- the first line of a text, and the others
first_line : (bs : List ℕ) → (bs ≡ [] → ⊥) → lines_of bs ≡ take (line_len bs) bs ∷ lines_of (drop (line_len bs + 1) bs)
first_line [] some = absurd (some refl)
first_line (b ∷ bs) some = go (b == newline) bs (first_line bs)
  where
    one_more : (n : ℕ) → suc n ≡ 1 + n
    one_more n = omega arith

    two_more : (n : ℕ) → suc (n + 1) ≡ 1 + n + 1
    two_more n = omega arith

    go : (c : Bool) (bs : List ℕ) → ((bs ≡ [] → ⊥) → lines_of bs ≡ take (line_len bs) bs ∷ lines_of (drop (line_len bs + 1) bs))
        → cond c ([] ∷ lines_of bs) (with_byte b (lines_of bs)) ≡ take (cond (not c) (1 + line_len bs) 0) (b ∷ bs) ∷ lines_of (drop (cond (not c) (1 + line_len bs) 0 + 1) (b ∷ bs))
    go true bs h = refl
    go false [] h = refl
    go false (c ∷ cs) h =
        let n = line_len (c ∷ cs) in
        ap (with_byte b) (h (λ e. cc e)) ∙ ap (λ i. take i (b ∷ c ∷ cs) ∷ lines_of (drop (suc (n + 1)) (b ∷ c ∷ cs))) (one_more n) ∙ ap (λ i. take (1 + n) (b ∷ c ∷ cs) ∷ lines_of (drop i (b ∷ c ∷ cs))) (two_more n)

-- one line more
pub marked-more : (mark text piece line initial now new : List ℕ) (start n stop : ℕ) → now ++ marked mark (drop start text) ≡ initial ++ marked mark text → piece ≡ drop start text → (piece ≡ [] → ⊥) → n ≡ line_len piece → line ≡ take n piece → stop ≡ start + (n + 1)
    → new ≡ ((now ++ mark) ++ line) ++ 10 ∷ [] → new ++ marked mark (drop stop text) ≡ initial ++ marked mark text
marked-more mark text piece line initial now new start n stop before piece_is some len line_is stop_is new_is =
    let others = marked mark (drop (n + 1) piece) in
    let first : marked mark piece ≡ (mark ++ line ++ newline ∷ []) ++ others =
    ap (flat_map (λ line. mark ++ line ++ newline ∷ [])) (first_line piece some ∙ ap (λ n. take n piece ∷ lines_of (drop (n + 1) piece)) (sym len)) ∙ ap (λ l. (mark ++ l ++ newline ∷ []) ++ others) (sym line_is) in
    let after : drop stop text ≡ drop (n + 1) piece = ap (λ i. drop i text) stop_is ∙ sym (drop-drop (n + 1) start text) ∙ ap (drop (n + 1)) (sym piece_is) in
    ap (λ l. l ++ marked mark (drop stop text)) new_is ∙ ap (λ l. (((now ++ mark) ++ line) ++ 10 ∷ []) ++ marked mark l) after
    ∙ joined mark line now others ∙ ap (λ l. now ++ l) (sym first) ∙ ap (λ l. now ++ marked mark l) piece_is ∙ before
  where
    joined : (mark line now others : List ℕ) → (((now ++ mark) ++ line) ++ 10 ∷ []) ++ others ≡ now ++ ((mark ++ line ++ newline ∷ []) ++ others)
    joined mark line now others = simp append_assoc

-- the lines of a field, by its text after its name
rest-field : (mark name : List ℕ) (body : Option (List ℕ)) → lines_of_rest mark name (option_map tail body) ≡ field_lines mark name body
rest-field mark name None = refl
rest-field mark name (Some body) = refl

pub rests-under : (old new : Entries) (names : List (List ℕ)) → lines_in (map rest_of old) (map rest_of new) names ≡ lines_under old new names
rests-under old new [] = refl
rests-under old new (name ∷ names) =
    ap (λ o. (lines_of_rest old_mark name o ++ lines_of_rest new_mark name (find byte_order name (map rest_of new))) ++ lines_in (map rest_of old) (map rest_of new) names) (find_rests name old)
    ∙ ap (λ l. (l ++ lines_of_rest new_mark name (find byte_order name (map rest_of new))) ++ lines_in (map rest_of old) (map rest_of new) names) (rest-field old_mark name (find byte_order name old))
    ∙ ap (λ o. (field_lines old_mark name (find byte_order name old) ++ lines_of_rest new_mark name o) ++ lines_in (map rest_of old) (map rest_of new) names) (find_rests name new)
    ∙ ap (λ l. (field_lines old_mark name (find byte_order name old) ++ l) ++ lines_in (map rest_of old) (map rest_of new) names) (rest-field new_mark name (find byte_order name new))
    ∙ ap (λ l. (field_lines old_mark name (find byte_order name old) ++ field_lines new_mark name (find byte_order name new)) ++ l) (rests-under old new names)

-- the lines of both fields with a name
pub lines-both : (old new : Entries) (name : List ℕ) (body other : Option (List ℕ)) (initial now next : List ℕ) → body ≡ find byte_order name old → other ≡ find byte_order name new → now ≡ initial ++ lines_of_rest old_mark name body → next ≡ now ++ lines_of_rest new_mark name other
    → next ≡ initial ++ (lines_of_rest old_mark name (find byte_order name old) ++ lines_of_rest new_mark name (find byte_order name new))
lines-both old new name body other initial now next body_is other_is now_is next_is =
    next_is ∙ ap (λ l. l ++ lines_of_rest new_mark name other) (now_is ∙ ap (λ o. initial ++ lines_of_rest old_mark name o) body_is)
    ∙ ap (λ o. (initial ++ lines_of_rest old_mark name (find byte_order name old)) ++ lines_of_rest new_mark name o) other_is
    ∙ append_assoc initial (lines_of_rest old_mark name (find byte_order name old)) (lines_of_rest new_mark name (find byte_order name new))
