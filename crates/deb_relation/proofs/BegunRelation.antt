-- The offset of each fault is reached: what comes before it can be continued to a relation.
use Rattle.std.proofs.Common.{◌≡◌, ℕ, zero, suc, ◌+◌, ◌||◌, Bool, List, [], ◌∷◌, ◌++◌, length, drop, IsTrue, Option, Some, None, Ok, Err, refl, sym, ap, ◌∙◌, subst, append_assoc, append-nil, codes, arith, inl, inr}
use Rattle.std.proofs.lemmas.List.{length-append}
use Rattle.deb_base.specs.PackageNames.{is_package_name}
use Rattle.deb_version.specs.Parts.{Meaning as Version}
use Rattle.deb_relation.specs.declared.operator.Op.{Op}
use Rattle.deb_relation.specs.Grammar.{IsWhite, SpellBetween, SpellInTurn, SpellsQualifier, SpellsBound, SpellsArchitectures, SpellsRestrictions, SpellsAlternative, SpellsGroup, SpellsPiece, groups_of, set_of}
use Rattle.deb_relation.specs.Meaning.{Restrictions, Alternative, Group, Relation}
use Rattle.deb_relation.specs.PlaceLaws.{IsReached, PlacesAreReached}
use Rattle.deb_relation.specs.Reading.{Stopped, Next, and_next, gathered, gather, begins, behind_white, is_at_end, is_white, run_of, alternative_with, read_name, read_qualifier, read_bound, read_architectures, read_formula, read_alternative, next_alternative, append, read_group, piece_behind, next_piece, put_piece, read_relation, some_next}
use Rattle.deb_relation.specs.Texts.{group_text, restrictions_text}
use Rattle.deb_relation.proofs.BegunLists.{architectures_begun, formula_begun}
use Rattle.deb_relation.proofs.BegunParts.{Begun, ok-not, stopped_left, stopped_by, name_left, qualifier_begun, bound_begun}
use Rattle.deb_relation.proofs.Faultless.{faults_stand}
use Rattle.deb_relation.proofs.ReadLists.{architectures_took}
use Rattle.deb_relation.proofs.ReadParts.{either, begins_is, name_took, qualifier_took, bound_took}
use Rattle.deb_relation.proofs.ReadRelation.{alternative_took, next_took, group_took, piece_took, step-next_piece}
use Rattle.deb_relation.proofs.Runs.{run_of-split, run_of-passes}

-- an alternative of these pieces
alternative_of : (before name qualifier bound architectures formula : List ℕ) (q : Option (List ℕ)) (b : Option (Op × Version)) (l : Option (Bool × List (List ℕ))) (lists : List Restrictions) → IsWhite before → IsTrue (is_package_name name) → SpellsQualifier qualifier q → SpellsBound bound b → SpellsArchitectures architectures l → SpellInTurn SpellsRestrictions formula lists
    → (text : List ℕ) → text ≡ before ++ (name ++ (qualifier ++ (bound ++ (architectures ++ (formula ++ []))))) → SpellsAlternative text (alternative_with name q b l (set_of restrictions_text lists))
alternative_of before name qualifier bound architectures formula q b l lists w is sq sb sl sf text spelt = record {
  before = before;
  qualifier = qualifier;
  bound = bound;
  architectures = architectures;
  formula = formula;
  lists = lists;
  behind = [];
  spelt = spelt;
  before_white = w;
  is_name = is;
  spells_qualifier = sq;
  spells_bound = sb;
  spells_architectures = sl;
  spell_lists = sf;
  set = refl;
  behind_white = tt;
}

-- pieces that were taken, and those that a text begins with
two : (a b c : List ℕ) → a ++ (b ++ c) ≡ (a ++ b) ++ c
two a b c = simp append_assoc refl

three : (a b c d : List ℕ) → a ++ (b ++ (c ++ d)) ≡ (a ++ (b ++ c)) ++ d
three a b c d = simp append_assoc refl

four : (a b c d e : List ℕ) → a ++ (b ++ (c ++ (d ++ e))) ≡ (a ++ (b ++ (c ++ d))) ++ e
four a b c d e = simp append_assoc refl

five : (a b c d e f : List ℕ) → a ++ (b ++ (c ++ (d ++ (e ++ f)))) ≡ (a ++ (b ++ (c ++ (d ++ e)))) ++ f
five a b c d e f = simp append_assoc refl

six : (a b c d e f g : List ℕ) → a ++ (b ++ (c ++ (d ++ (e ++ (f ++ g))))) ≡ (a ++ (b ++ (c ++ (d ++ (e ++ f))))) ++ g
six a b c d e f g = simp append_assoc refl

alternative_begun : (text : List ℕ) (s : Stopped) → read_alternative (behind_white text) ≡ Err s → Begun SpellsAlternative text s.1
unfolding read_alternative
alternative_begun text s e =
    let w = run_of is_white text in
    let white = run_of-passes is_white text in
    stopped_by (read_name (behind_white text)) _ s e
    (λ x. record {
      before = w;
      after = behind_white text;
      more = codes "aa";
      value = alternative_with (codes "aa") None None None [];
      split = run_of-split is_white text;
      left_is = name_left (behind_white text) s x;
      spelled = alternative_of w (codes "aa") [] [] [] [] None None None [] white refl refl refl refl refl (w ++ codes "aa") refl;
    })
    (λ q1 was1 e1.
    let name = name_took (behind_white text) q1 was1 in
    let n = q1.0 in
    let to1 : text ≡ w ++ (n ++ q1.1) = run_of-split is_white text ∙ ap (λ t. w ++ t) name.0 in
    stopped_by (read_qualifier q1.1) _ s e1
    (λ x.
    let b = qualifier_begun q1.1 s x in
    record {
      before = w ++ (n ++ b.before);
      after = b.after;
      more = b.more;
      value = alternative_with n b.value None None [];
      split = to1 ∙ ap (λ t. w ++ (n ++ t)) b.split ∙ three w n b.before b.after;
      left_is = b.left_is;
      spelled = alternative_of w n (b.before ++ b.more) [] [] [] b.value None None [] white name.1 b.spelled refl refl refl _
          (sym (three w n b.before b.more) ∙ ap (λ t. w ++ (n ++ t)) (sym (append-nil (b.before ++ b.more))));
    })
    (λ q2 was2 e2.
    let q = qualifier_took q1.1 q2 was2 in
    let to2 : text ≡ w ++ (n ++ (q.piece ++ q2.1)) = to1 ∙ ap (λ t. w ++ (n ++ t)) q.split in
    stopped_by (read_bound (behind_white q2.1)) _ s e2
    (λ x.
    let b = bound_begun q2.1 s x in
    record {
      before = w ++ (n ++ (q.piece ++ b.before));
      after = b.after;
      more = b.more;
      value = alternative_with n q2.0 b.value None [];
      split = to2 ∙ ap (λ t. w ++ (n ++ (q.piece ++ t))) b.split ∙ four w n q.piece b.before b.after;
      left_is = b.left_is;
      spelled = alternative_of w n q.piece (b.before ++ b.more) [] [] q2.0 b.value None [] white name.1 q.spelled b.spelled refl refl _
          (sym (four w n q.piece b.before b.more) ∙ ap (λ t. w ++ (n ++ (q.piece ++ t))) (sym (append-nil (b.before ++ b.more))));
    })
    (λ q3 was3 e3.
    let d = bound_took q2.1 q3 was3 in
    let to3 : text ≡ w ++ (n ++ (q.piece ++ (d.piece ++ d.more))) = to2 ∙ ap (λ t. w ++ (n ++ (q.piece ++ t))) d.split in
    stopped_by (read_architectures q3.1) _ s e3
    (λ x.
    let b = architectures_begun d.more s (subst (λ t. read_architectures t ≡ Err s) d.behind x) in
    record {
      before = w ++ (n ++ (q.piece ++ (d.piece ++ b.before)));
      after = b.after;
      more = b.more;
      value = alternative_with n q2.0 q3.0 b.value [];
      split = to3 ∙ ap (λ t. w ++ (n ++ (q.piece ++ (d.piece ++ t)))) b.split ∙ five w n q.piece d.piece b.before b.after;
      left_is = b.left_is;
      spelled = alternative_of w n q.piece d.piece (b.before ++ b.more) [] q2.0 q3.0 b.value [] white name.1 q.spelled d.spelled b.spelled refl _
          (sym (five w n q.piece d.piece b.before b.more) ∙ ap (λ t. w ++ (n ++ (q.piece ++ (d.piece ++ t)))) (sym (append-nil (b.before ++ b.more))));
    })
    (λ q4 was4 e4.
    let l = architectures_took d.more q4 (subst (λ t. read_architectures t ≡ Ok q4) d.behind was4) in
    let to4 : text ≡ w ++ (n ++ (q.piece ++ (d.piece ++ (l.piece ++ l.more)))) = to3 ∙ ap (λ t. w ++ (n ++ (q.piece ++ (d.piece ++ t)))) l.split in
    stopped_by (read_formula q4.1) _ s e4
    (λ x.
    let b = formula_begun l.more s (subst (λ t. read_formula t ≡ Err s) l.behind x) in
    record {
      before = w ++ (n ++ (q.piece ++ (d.piece ++ (l.piece ++ b.before))));
      after = b.after;
      more = b.more;
      value = alternative_with n q2.0 q3.0 q4.0 (set_of restrictions_text b.value);
      split = to4 ∙ ap (λ t. w ++ (n ++ (q.piece ++ (d.piece ++ (l.piece ++ t))))) b.split ∙ six w n q.piece d.piece l.piece b.before b.after;
      left_is = b.left_is;
      spelled = alternative_of w n q.piece d.piece l.piece (b.before ++ b.more) q2.0 q3.0 q4.0 b.value white name.1 q.spelled d.spelled l.spelled b.spelled _
          (sym (six w n q.piece d.piece l.piece b.before b.more) ∙ ap (λ t. w ++ (n ++ (q.piece ++ (d.piece ++ (l.piece ++ t))))) (sym (append-nil (b.before ++ b.more))));
    })
    (λ q5 was5 x. absurd (ok-not _ s x))))))

-- alternatives after a bar
record BegunMore (rest : List ℕ) (left : ℕ) : Type 0 where
  before : List ℕ
  after : List ℕ
  more : List ℕ
  first : Alternative
  group : Group
  split : rest ≡ 124 ∷ (before ++ after)
  left_is : length after ≡ left
  spelled : SpellsGroup (before ++ more) (first ∷ group)

next_begun : (rest : List ℕ) (s : Stopped) → next_alternative rest ≡ Err s → BegunMore rest s.1
unfolding next_alternative
next_begun rest s e =
    either (begins 124 rest) _ _ _ e
    (λ bar e1. stopped_by (read_alternative (behind_white (drop 1 rest))) some_next s e1
    (λ x.
    let b = alternative_begun (drop 1 rest) s x in
    record {
      before = b.before;
      after = b.after;
      more = b.more;
      first = b.value;
      group = [];
      split = begins_is 124 rest bar ∙ ap (λ r. 124 ∷ r) b.split;
      left_is = b.left_is;
      spelled = b.spelled;
    })
    (λ q was x. absurd (ok-not _ s x)))
    (λ _ x. absurd (ok-not _ s x))

more_begun : (n : ℕ) (rest : List ℕ) (all : Group) (s : Stopped) → gathered next_alternative append n all rest ≡ Err s → BegunMore rest s.1
more_begun zero rest all s e = absurd (ok-not _ s e)
more_begun (suc n) rest all s e = from (more_begun n) (next_alternative rest) refl e
  where
    from : ((rest' : List ℕ) (all' : Group) (s' : Stopped) → gathered next_alternative append n all' rest' ≡ Err s' → BegunMore rest' s'.1) → (next : Next Alternative) → next_alternative rest ≡ next → and_next next (Ok (all, rest)) (λ a behind. gathered next_alternative append n (append a all) behind) ≡ Err s → BegunMore rest s.1
    from more (Err t) was x = subst (BegunMore rest) (stopped_left t s x) (next_begun rest t was)
    from more (Ok None) was x = absurd (ok-not _ s x)
    from more (Ok (Some p)) was x =
        let t = next_took rest p was in
        let m = more p.1 (append p.0 all) s x in
        record {
          before = t.piece ++ 124 ∷ m.before;
          after = m.after;
          more = m.more;
          first = p.0;
          group = m.first ∷ m.group;
          split = t.split ∙ ap (λ r. 124 ∷ (t.piece ++ r)) m.split ∙ ap (λ r. 124 ∷ r) (sym (append_assoc t.piece (124 ∷ m.before) m.after));
          left_is = m.left_is;
          spelled = (t.piece, m.before ++ m.more, append_assoc t.piece (124 ∷ m.before) m.more, t.spelled, m.spelled);
        }

group_begun : (text : List ℕ) (s : Stopped) → read_group (behind_white text) ≡ Err s → Begun SpellsGroup text s.1
unfolding read_group gather
group_begun text s e =
    stopped_by (read_alternative (behind_white text)) _ s e
    (λ x.
    let b = alternative_begun text s x in
    record { before = b.before; after = b.after; more = b.more; value = b.value ∷ []; split = b.split; left_is = b.left_is; spelled = b.spelled })
    (λ q was x.
    let t = alternative_took text q was in
    let m = more_begun (length q.1) q.1 (q.0 ∷ []) s x in
    record {
      before = t.piece ++ 124 ∷ m.before;
      after = m.after;
      more = m.more;
      value = q.0 ∷ m.first ∷ m.group;
      split = t.split ∙ ap (λ r. t.piece ++ r) m.split ∙ sym (append_assoc t.piece (124 ∷ m.before) m.after);
      left_is = m.left_is;
      spelled = (t.piece, m.before ++ m.more, append_assoc t.piece (124 ∷ m.before) m.more, t.spelled, m.spelled);
    })

piece_begun : (text : List ℕ) (s : Stopped) → next_piece text ≡ Err s → Begun SpellsPiece text s.1
unfolding next_piece
piece_begun text s e =
    either (is_at_end (behind_white text)) _ _ _ e (λ _ x. absurd (ok-not _ s x)) (λ _ e1.
    either (begins 44 (behind_white text)) _ _ _ e1 (λ _ x. absurd (ok-not _ s x)) (λ _ e2.
    stopped_by (read_group (behind_white text)) piece_behind s e2
    (λ x.
    let b = group_begun text s x in
    record { before = b.before; after = b.after; more = b.more; value = Some b.value; split = b.split; left_is = b.left_is; spelled = b.spelled })
    (λ q was e3.
    let t = group_took text q was in
    either (is_at_end q.1 || begins 44 q.1) _ _ _ e3 (λ _ x. absurd (ok-not _ s x)) (λ _ x. record {
      before = t.piece;
      after = q.1;
      more = [];
      value = Some q.0;
      split = t.split;
      left_is = stopped_left _ s x;
      spelled = subst (λ r. SpellsGroup r q.0) (sym (append-nil t.piece)) t.spelled;
    }))))

-- the pieces of a text, up to the offset where one stops
record BegunPieces (text : List ℕ) (left : ℕ) : Type 0 where
  before : List ℕ
  after : List ℕ
  more : List ℕ
  first : Option Group
  pieces : List (Option Group)
  split : text ≡ before ++ after
  left_is : length after ≡ left
  spelled : SpellBetween 44 SpellsPiece (before ++ more) (first ∷ pieces)

-- at the end of the text none stops
none_stops : (n : ℕ) (all : Relation) (s : Stopped) → gathered next_piece put_piece n all [] ≡ Err s → ⊥
none_stops zero all s e = ok-not _ s e
none_stops (suc n) all s e = ok-not (all, []) s (sym (ap (λ next. and_next next (Ok (all, [])) (λ a behind. gathered next_piece put_piece n (put_piece a all) behind)) step-next_piece.ends) ∙ e)

pieces_begun : (n : ℕ) (text : List ℕ) (all : Relation) (s : Stopped) → gathered next_piece put_piece n all text ≡ Err s → BegunPieces text s.1
pieces_begun zero text all s e = absurd (ok-not _ s e)
pieces_begun (suc n) text all s e = from (pieces_begun n) (next_piece text) refl e
  where
    from : ((text' : List ℕ) (all' : Relation) (s' : Stopped) → gathered next_piece put_piece n all' text' ≡ Err s' → BegunPieces text' s'.1) → (next : Next (Option Group)) → next_piece text ≡ next → and_next next (Ok (all, text)) (λ a behind. gathered next_piece put_piece n (put_piece a all) behind) ≡ Err s → BegunPieces text s.1
    from more (Err t) was x =
        let b = piece_begun text t was in
        record { before = b.before; after = b.after; more = b.more; first = b.value; pieces = []; split = b.split; left_is = b.left_is ∙ stopped_left t s x; spelled = b.spelled }
    from more (Ok None) was x = absurd (ok-not _ s x)
    from more (Ok (Some p)) was x =
        let t = piece_took text p was in
        elim t.split [
          | inl comma ↦
              let m = more p.1 (put_piece p.0 all) s x in
              record {
                before = t.piece ++ 44 ∷ m.before;
                after = m.after;
                more = m.more;
                first = p.0;
                pieces = m.first ∷ m.pieces;
                split = comma ∙ ap (λ r. t.piece ++ 44 ∷ r) m.split ∙ sym (append_assoc t.piece (44 ∷ m.before) m.after);
                left_is = m.left_is;
                spelled = (t.piece, m.before ++ m.more, append_assoc t.piece (44 ∷ m.before) m.more, t.spelled, m.spelled);
              }
          | inr last ↦ absurd (none_stops n (put_piece p.0 all) s (subst (λ r. gathered next_piece put_piece n (put_piece p.0 all) r ≡ Err s) last.1 x))
        ]

reached : (text : List ℕ) (s : Stopped) (at : ℕ) → read_relation text ≡ Err s → at + s.1 ≡ length text → IsReached text at
unfolding read_relation gather
reached text s at e place =
    let b = pieces_begun (length text) text [] s e in
    let whole = ap length b.split ∙ length-append b.before b.after in
    record {
      before = b.before;
      after = b.after;
      whole = b.split;
      place = omega (arith, whole, b.left_is, place);
      begins = (b.more, set_of group_text (groups_of (b.first ∷ b.pieces)), record { pieces = b.first ∷ b.pieces; spell_pieces = b.spelled; set = refl });
    }

pub places_are_reached : PlacesAreReached
places_are_reached text reason at e =
    let f = faults_stand text reason at e in
    reached text (reason, f.0) at f.1 f.2
