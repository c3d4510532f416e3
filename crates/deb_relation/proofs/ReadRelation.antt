-- What is read of an alternative, a group and a relation is spelled there.
use Rattle.std.proofs.Common.{◌≡◌, ℕ, zero, suc, ◌≤◌, ◌<◌, Bool, true, false, List, [], ◌∷◌, ◌++◌, length, drop, Option, Some, None, Ok, Err, refl, sym, ap, ◌∙◌, subst, append_assoc, append-nil, cond, ◌||◌, arith, ◌⊎◌, inl, inr}
use Rattle.deb_relation.specs.declared.fault.Reason.TheVariants.{Trailing}
use Rattle.deb_relation.specs.Grammar.{IsWhite, SpellBetween, SpellsAlternative, SpellsGroup, SpellsPiece, groups_of, SpellsRelation, set_with}
use Rattle.deb_relation.specs.Meaning.{Alternative, Group, Relation}
use Rattle.deb_relation.specs.Reading.{Reading, Next, and_then, and_next, gathered, gather, begins, behind_white, is_at_end, is_white, run_of, read_name, read_qualifier, read_bound, read_architectures, read_formula, read_alternative, next_alternative, append, read_group, piece_behind, next_piece, put_piece, read_relation, placed, relation_in, some_next}
use Rattle.deb_relation.specs.Texts.{group_text}
use Rattle.std.proofs.lemmas.Bool.{false≢true}
use Rattle.std.proofs.lemmas.List.{length-append}
use Rattle.deb_version.specs.PartsLemmas.{cons_not_nil}
use Rattle.deb_relation.proofs.Bytes.{at_end-some}
use Rattle.deb_relation.proofs.Gathering.{IsStep}
use Rattle.deb_relation.proofs.ReadLists.{architectures_took, formula_took, none_some, some_none, some_same, err_some}
use Rattle.deb_relation.proofs.ReadParts.{either, went_on, stopped-no, ok-same, begins_is, Took, name_took, qualifier_took, bound_took}
use Rattle.deb_relation.proofs.Runs.{run_of-split, run_of-passes}

-- a text that is cut again and again is its pieces and what is left
seven_pieces : (t0 t1 t2 t3 t4 t5 t6 rest before name q b l f behind : List ℕ) → t0 ≡ before ++ t1 → t1 ≡ name ++ t2 → t2 ≡ q ++ t3 → t3 ≡ b ++ t4 → t4 ≡ l ++ t5 → t5 ≡ f ++ t6 → t6 ≡ behind ++ rest → t0 ≡ (before ++ (name ++ (q ++ (b ++ (l ++ (f ++ behind)))))) ++ rest
seven_pieces t0 t1 t2 t3 t4 t5 t6 rest before name q b l f behind e0 e1 e2 e3 e4 e5 e6 = rw (e0, e1, e2, e3, e4, e5, e6) (sym (reordered before name q b l f behind rest))
  where
    reordered : (before name q b l f behind rest : List ℕ) → (before ++ (name ++ (q ++ (b ++ (l ++ (f ++ behind)))))) ++ rest ≡ before ++ (name ++ (q ++ (b ++ (l ++ (f ++ (behind ++ rest))))))
    reordered before name q b l f behind rest = simp append_assoc refl

pub alternative_took : (text : List ℕ) (q : Alternative × List ℕ) → read_alternative (behind_white text) ≡ Ok q → Took SpellsAlternative text q
unfolding read_alternative
alternative_took text q e =
    let s1 = went_on (read_name (behind_white text)) _ q e in
    let name = name_took (behind_white text) s1.first s1.was in
    let s2 = went_on (read_qualifier s1.first.1) _ q s1.then in
    let qualifier = qualifier_took s1.first.1 s2.first s2.was in
    let s3 = went_on (read_bound (behind_white s2.first.1)) _ q s2.then in
    let bound = bound_took s2.first.1 s3.first s3.was in
    let s4 = went_on (read_architectures s3.first.1) _ q s3.then in
    let list = architectures_took bound.more s4.first (subst (λ t. read_architectures t ≡ Ok s4.first) bound.behind s4.was) in
    let s5 = went_on (read_formula s4.first.1) _ q s4.then in
    let formula = formula_took list.more s5.first (subst (λ t. read_formula t ≡ Ok s5.first) list.behind s5.was) in
    let before = run_of is_white text in
    let behind = run_of is_white formula.more in
    let last : formula.more ≡ behind ++ s5.first.1 = run_of-split is_white formula.more ∙ ap (λ t. behind ++ t) (sym formula.behind) in
    subst (Took SpellsAlternative text) (ok-same _ _ s5.then) (record {
      piece = before ++ (s1.first.0 ++ (qualifier.piece ++ (bound.piece ++ (list.piece ++ (formula.piece ++ behind)))));
      split = seven_pieces text (behind_white text) s1.first.1 s2.first.1 bound.more list.more formula.more s5.first.1 before s1.first.0 qualifier.piece bound.piece list.piece formula.piece behind (run_of-split is_white text) name.0 qualifier.split bound.split list.split formula.split last;
      spelled = record {
        before = before;
        qualifier = qualifier.piece;
        bound = bound.piece;
        architectures = list.piece;
        formula = formula.piece;
        lists = formula.lists;
        behind = behind;
        spelt = refl;
        before_white = run_of-passes is_white text;
        is_name = name.1;
        spells_qualifier = qualifier.spelled;
        spells_bound = bound.spelled;
        spells_architectures = list.spelled;
        spell_lists = formula.spell;
        set = formula.set;
        behind_white = run_of-passes is_white formula.more;
      };
    })

-- alternatives after the first, each after its bar
abbrev are_more : Group → List ℕ → List ℕ → Type 0
are_more [] rest behind = rest ≡ behind
are_more (a ∷ group) rest behind = (piece : List ℕ) × (rest ≡ 124 ∷ (piece ++ behind)) × SpellsGroup piece (a ∷ group)

record TookMore (rest : List ℕ) (all : Group) (q : Group × List ℕ) : Type 0 where
  group : Group
  are : are_more group rest q.1
  set : q.0 ≡ all ++ group

pub record TookAlternative (rest : List ℕ) (q : Alternative × List ℕ) : Type 0 where
  pub piece : List ℕ
  pub split : rest ≡ 124 ∷ (piece ++ q.1)
  pub spelled : SpellsAlternative piece q.0

pub next_took : (rest : List ℕ) (q : Alternative × List ℕ) → next_alternative rest ≡ Ok (Some q) → TookAlternative rest q
unfolding next_alternative
next_took rest q e =
    either (begins 124 rest) _ _ _ e
    (λ bar e1.
    let s = went_on (read_alternative (behind_white (drop 1 rest))) some_next (Some q) e1 in
    let t = alternative_took (drop 1 rest) s.first s.was in
    subst (TookAlternative rest) (some_same _ _ s.then) (record { piece = t.piece; split = begins_is 124 rest bar ∙ ap (λ r. 124 ∷ r) t.split; spelled = t.spelled }))
    (λ _ x. absurd (none_some _ x))

-- a further alternative leaves fewer bytes
pub step-next_alternative : IsStep next_alternative
unfolding next_alternative
step-next_alternative = record {
  ends = refl;
  shrinks = λ rest a behind e. let t = next_took rest (a, behind) e in omega (arith, ap length t.split, length-append t.piece behind);
}

more_are : (a : Alternative) (group : Group) (piece rest behind behind' : List ℕ) → rest ≡ 124 ∷ (piece ++ behind) → SpellsAlternative piece a → are_more group behind behind' → are_more (a ∷ group) rest behind'
more_are a [] piece rest behind behind' split spelled more = (piece, split ∙ ap (λ t. 124 ∷ (piece ++ t)) more, spelled)
more_are a (next ∷ group) piece rest behind behind' split spelled more =
    (piece ++ 124 ∷ more.0, split ∙ ap (λ t. 124 ∷ (piece ++ t)) more.1 ∙ ap (λ t. 124 ∷ t) (sym (append_assoc piece (124 ∷ more.0) behind')), (piece, more.0, refl, spelled, more.2))

nothing_more : (rest : List ℕ) (all : Group) (q : Group × List ℕ) → (all, rest) ≡ q → TookMore rest all q
nothing_more rest all q same = subst (TookMore rest all) same (record { group = []; are = refl; set = sym (append-nil all) })

more_took : (n : ℕ) (rest : List ℕ) (all : Group) (q : Group × List ℕ) → gathered next_alternative append n all rest ≡ Ok q → TookMore rest all q
more_took zero rest all q e = nothing_more rest all q (ok-same _ _ e)
more_took (suc n) rest all q e = from (more_took n) (next_alternative rest) refl e
  where
    from : ((rest' : List ℕ) (all' : Group) (q' : Group × List ℕ) → gathered next_alternative append n all' rest' ≡ Ok q' → TookMore rest' all' q') → (next : Next Alternative) → next_alternative rest ≡ next → and_next next (Ok (all, rest)) (λ a behind. gathered next_alternative append n (append a all) behind) ≡ Ok q → TookMore rest all q
    from more (Err stopped) was x = absurd (stopped-no _ _ x)
    from more (Ok None) was x = nothing_more rest all q (ok-same _ _ x)
    from more (Ok (Some p)) was x =
        let t = next_took rest p was in
        let m = more p.1 (append p.0 all) q x in
        record { group = p.0 ∷ m.group; are = more_are p.0 m.group t.piece rest p.1 q.1 t.split t.spelled m.are; set = m.set ∙ append_assoc all (p.0 ∷ []) m.group }

first_and_more : (a : Alternative) (group : Group) (text piece behind behind' : List ℕ) → text ≡ piece ++ behind → SpellsAlternative piece a → are_more group behind behind' → Took SpellsGroup text (a ∷ group, behind')
first_and_more a [] text piece behind behind' split spelled more = record { piece = piece; split = split ∙ ap (λ t. piece ++ t) more; spelled = spelled }
first_and_more a (next ∷ group) text piece behind behind' split spelled more = record {
  piece = piece ++ 124 ∷ more.0;
  split = split ∙ ap (λ t. piece ++ t) more.1 ∙ sym (append_assoc piece (124 ∷ more.0) behind');
  spelled = (piece, more.0, refl, spelled, more.2);
}

pub group_took : (text : List ℕ) (q : Group × List ℕ) → read_group (behind_white text) ≡ Ok q → Took SpellsGroup text q
unfolding read_group gather
group_took text q e =
    let s = went_on (read_alternative (behind_white text)) _ q e in
    let t = alternative_took text s.first s.was in
    let m = more_took (length s.first.1) s.first.1 (s.first.0 ∷ []) q s.then in
    subst (λ g. Took SpellsGroup text (g, q.1)) (sym m.set) (first_and_more s.first.0 m.group text t.piece s.first.1 q.1 t.split t.spelled m.are)

-- a piece and the comma after it, or the last piece
pub record TookPiece (text : List ℕ) (q : Option Group × List ℕ) : Type 0 where
  pub piece : List ℕ
  pub spelled : SpellsPiece piece q.0
  pub split : (text ≡ piece ++ 44 ∷ q.1) ⊎ ((text ≡ piece) × (q.1 ≡ []))

at_end_is : (text : List ℕ) → is_at_end text ≡ true → text ≡ []
at_end_is [] e = refl
at_end_is (b ∷ bs) e = absurd (false≢true (sym (at_end-some (b ∷ bs) (λ x. cons_not_nil b bs x)) ∙ e))

group_piece : (text : List ℕ) (group : Group) (rest : List ℕ) (q : Option Group × List ℕ) → Took SpellsGroup text (group, rest) → piece_behind group rest ≡ Ok (Some q) → TookPiece text q
group_piece text group rest q t e =
    either (is_at_end rest || begins 44 rest) _ _ _ e
    (λ ends x. subst (TookPiece text) (some_same _ _ x) (record { piece = t.piece; spelled = t.spelled; split = by_end (is_at_end rest) refl ends }))
    (λ _ x. absurd (err_some _ _ x))
  where
    by_end : (at_end : Bool) → is_at_end rest ≡ at_end → (at_end || begins 44 rest) ≡ true → (text ≡ t.piece ++ 44 ∷ drop 1 rest) ⊎ ((text ≡ t.piece) × (drop 1 rest ≡ []))
    by_end true is ends = let none = at_end_is rest is in inr (t.split ∙ ap (λ r. t.piece ++ r) none ∙ append-nil t.piece, ap (drop 1) none)
    by_end false is ends = inl (t.split ∙ ap (λ r. t.piece ++ r) (begins_is 44 rest ends))

pub piece_took : (text : List ℕ) (q : Option Group × List ℕ) → next_piece text ≡ Ok (Some q) → TookPiece text q
unfolding next_piece
piece_took text q e =
    either (is_at_end (behind_white text)) _ _ _ e (λ _ x. absurd (none_some _ x)) (λ _ e1.
    either (begins 44 (behind_white text)) _ _ _ e1
    (λ comma x. subst (TookPiece text) (some_same _ _ x) (record {
      piece = run_of is_white text;
      spelled = run_of-passes is_white text;
      split = inl (run_of-split is_white text ∙ ap (λ t. run_of is_white text ++ t) (begins_is 44 (behind_white text) comma));
    }))
    (λ _ e2. let s = went_on (read_group (behind_white text)) piece_behind (Some q) e2 in
    group_piece text s.first.0 s.first.1 q (group_took text s.first s.was) s.then))

-- a piece leaves fewer bytes: after the last there are none
pub step-next_piece : IsStep next_piece
unfolding next_piece
step-next_piece = record { ends = refl; shrinks = λ text piece rest e. by_split text piece rest e (piece_took text (piece, rest) e) }
  where
    by_split : (text : List ℕ) (piece : Option Group) (rest : List ℕ) → next_piece text ≡ Ok (Some (piece, rest)) → TookPiece text (piece, rest) → length rest < length text
    by_split [] piece rest e t = absurd (none_some _ e)
    by_split (b ∷ bs) piece rest e t = from t.split
      where
        from : ((b ∷ bs) ≡ t.piece ++ 44 ∷ rest) ⊎ (((b ∷ bs) ≡ t.piece) × (rest ≡ [])) → length rest < length (b ∷ bs)
        from (inl split) = omega (arith, ap length split, length-append t.piece (44 ∷ rest))
        from (inr whole) = omega (arith, ap length whole.1)

no_piece_white : (text : List ℕ) → next_piece text ≡ Ok None → IsWhite text
unfolding next_piece
no_piece_white text e = from (is_at_end (behind_white text)) (begins 44 (behind_white text)) refl e
  where
    white : is_at_end (behind_white text) ≡ true → IsWhite text
    white at_end = subst IsWhite (sym (run_of-split is_white text ∙ ap (λ t. run_of is_white text ++ t) (at_end_is (behind_white text) at_end) ∙ append-nil (run_of is_white text))) (run_of-passes is_white text)

    group_none : (r : Reading Group) → and_then r piece_behind ≡ Ok None → ⊥
    group_none (Ok p) x = by_test (is_at_end p.1 || begins 44 p.1) x
      where
        by_test : (b : Bool) → let r : Next (Option Group) = cond b (Ok (Some (Some p.0, drop 1 p.1))) (Err (Trailing, length p.1)) in r ≡ Ok None → ⊥
        by_test true x = cc
        by_test false x = cc
    group_none (Err stopped) x = cc

    from : (at_end comma : Bool) → is_at_end (behind_white text) ≡ at_end → (let r : Next (Option Group) = cond at_end (Ok None) (cond comma (Ok (Some (None, drop 1 (behind_white text)))) (and_then (read_group (behind_white text)) piece_behind)) in r ≡ Ok None) → IsWhite text
    from true comma is x = white is
    from false true is x = absurd (some_none _ x)
    from false false is x = absurd (group_none (read_group (behind_white text)) x)

-- the pieces of a text
record TookPieces (text : List ℕ) (all : Relation) (q : Relation × List ℕ) : Type 0 where
  pieces : List (Option Group)
  spell : SpellBetween 44 SpellsPiece text pieces
  set : q.0 ≡ set_with group_text (groups_of pieces) all

last_white : (text : List ℕ) (all : Relation) (q : Relation × List ℕ) → IsWhite text → (all, text) ≡ q → TookPieces text all q
last_white text all q w same = subst (TookPieces text all) same (record { pieces = None ∷ []; spell = w; set = refl })

set_piece : (piece : Option Group) (pieces : List (Option Group)) (all : Relation) → set_with group_text (groups_of pieces) (put_piece piece all) ≡ set_with group_text (groups_of (piece ∷ pieces)) all
set_piece None pieces all = refl
set_piece (Some group) pieces all = refl

piece_and_more : (text : List ℕ) (all : Relation) (q : Relation × List ℕ) (p : Option Group × List ℕ) (piece : List ℕ) → SpellsPiece piece p.0 → text ≡ piece ++ 44 ∷ p.1 → TookPieces p.1 (put_piece p.0 all) q → TookPieces text all q
piece_and_more text all q p piece spelled split m = from m.pieces m.spell m.set
  where
    from : (pieces : List (Option Group)) → SpellBetween 44 SpellsPiece p.1 pieces → q.0 ≡ set_with group_text (groups_of pieces) (put_piece p.0 all) → TookPieces text all q
    from [] spell set = absurd spell
    from (next ∷ pieces) spell set = record { pieces = p.0 ∷ next ∷ pieces; spell = (piece, p.1, split, spelled, spell); set = set ∙ set_piece p.0 (next ∷ pieces) all }

nothing_left : (n : ℕ) (all : Relation) (q : Relation × List ℕ) → gathered next_piece put_piece n all [] ≡ Ok q → q.0 ≡ all
nothing_left zero all q e = ap (λ p. p.0) (sym (ok-same _ _ e))
nothing_left (suc n) all q e = ap (λ p. p.0) (sym (ok-same (all, []) q (sym (ap (λ s. and_next s (Ok (all, [])) (λ a behind. gathered next_piece put_piece n (put_piece a all) behind)) step-next_piece.ends) ∙ e)))

pieces_took : (n : ℕ) (text : List ℕ) (all : Relation) (q : Relation × List ℕ) → length text ≤ n → gathered next_piece put_piece n all text ≡ Ok q → TookPieces text all q
pieces_took zero [] all q le e = last_white [] all q tt (ok-same _ _ e)
pieces_took zero (b ∷ bs) all q le e = absurd (omega arith)
pieces_took (suc n) text all q le e = from (pieces_took n) (next_piece text) refl e
  where
    from : ((text' : List ℕ) (all' : Relation) (q' : Relation × List ℕ) → length text' ≤ n → gathered next_piece put_piece n all' text' ≡ Ok q' → TookPieces text' all' q') → (next : Next (Option Group)) → next_piece text ≡ next → and_next next (Ok (all, text)) (λ a behind. gathered next_piece put_piece n (put_piece a all) behind) ≡ Ok q → TookPieces text all q
    from more (Err stopped) was x = absurd (stopped-no _ _ x)
    from more (Ok None) was x = last_white text all q (no_piece_white text was) (ok-same _ _ x)
    from more (Ok (Some p)) was x =
        let less : length p.1 < length text = step-next_piece.shrinks text p.0 p.1 was in
        let t = piece_took text p was in
        elim t.split [
          | inl comma ↦ piece_and_more text all q p t.piece t.spelled comma (more p.1 (put_piece p.0 all) q (omega arith) x)
          | inr last ↦ record {
            pieces = p.0 ∷ [];
            spell = subst (λ s. SpellsPiece s p.0) (sym last.0) t.spelled;
            set = nothing_left n (put_piece p.0 all) q (subst (λ r. gathered next_piece put_piece n (put_piece p.0 all) r ≡ Ok q) last.1 x) ∙ set_piece p.0 [] all;
          }
        ]

-- what is read is spelled
pub relation_took : (text : List ℕ) (m : Relation) → relation_in text ≡ Ok m → SpellsRelation text m
unfolding relation_in read_relation gather
relation_took text m e = from (gathered next_piece put_piece (length text) [] text) refl e
  where
    from : (r : Reading Relation) → gathered next_piece put_piece (length text) [] text ≡ r → placed (length text) r ≡ Ok m → SpellsRelation text m
    from (Err stopped) was x = absurd cc
    from (Ok p) was x =
        let same : p.0 ≡ m = cc in
        let t = pieces_took (length text) text [] p (omega arith) was in
        record { pieces = t.pieces; spell_pieces = t.spell; set = sym same ∙ t.set }
