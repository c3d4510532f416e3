-- Where the reading of a list or a formula stops, what comes before can be continued to one.
use Rattle.std.proofs.Common.{◌≡◌, ◌≢◌, ℕ, zero, suc, Bool, true, false, not, List, [], ◌∷◌, ◌++◌, length, map, drop, IsTrue, Some, None, Ok, Err, refl, sym, ap, ◌∙◌, subst, append_assoc, append-nil, codes, cond}
use Rattle.std.specs.List.{AllByRecursion}
use Rattle.std.proofs.lemmas.Bool.{eqb-true, false≢true}
use Rattle.deb_base.specs.PackageNames.{is_arch_name, is_profile_name}
use Rattle.deb_version.specs.PartsLemmas.{cons_not_nil}
use Rattle.deb_relation.specs.declared.fault.Reason.TheVariants.{Unclosed, ListEmpty}
use Rattle.deb_relation.specs.Grammar.{IsWhite, IsApart, SpellItems, SpellInTurn, set_of, SpellsArchitectures, SpellsRestrictions}
use Rattle.deb_relation.specs.Meaning.{Restrictions}
use Rattle.deb_relation.specs.Reading.{Stopped, Next, and_then, and_next, gathered, gather, begins, behind_white, is_at_end, is_before, is_white, run_of, ends_list, name_of_item, next_architecture, next_restriction, read_list_end, with_behind, end_list, is_empty_list, read_names, read_architectures, read_restrictions, some_next, next_restrictions, read_formula}
use Rattle.deb_relation.specs.Sets.{insert_by, itself, same_bool}
use Rattle.deb_relation.specs.Texts.{signed_text, item_text, restrictions_text}
use Rattle.deb_relation.proofs.BegunParts.{Begun, ok-not, stopped_left, stopped_by}
use Rattle.deb_relation.proofs.Bytes.{signed-some, arch_bytes, profile_bytes, arch_some, profile_some, signed_run}
use Rattle.deb_relation.proofs.ReadLists.{TookItem, architecture_took, restriction_took, list_piece}
use Rattle.deb_relation.proofs.ReadParts.{either, ok-same, begins_is}
use Rattle.deb_relation.proofs.Runs.{Passes, Stops, run_of-split, run_of-passes}

-- the items before an offset, without the white space after them
record ItemsFront {A : Type 0} (text : A → List ℕ) (close : ℕ) (Good : A → Type 0) (rest after : List ℕ) : Type 0 where
  front : List ℕ
  items : List A
  split : rest ≡ front ++ after
  good : AllByRecursion Good items
  apart : Stops (is_before close) rest → (white : List ℕ) → IsWhite white → IsApart (front ++ white)
  spells : (white : List ℕ) → IsWhite white → SpellItems (front ++ white) (map text items)

-- a list after its opening byte, up to the offset where it stops
record BegunList {A : Type 0} (text : A → List ℕ) (close : ℕ) (Good : A → Type 0) (rest : List ℕ) (left : ℕ) : Type 0 where
  before : List ℕ
  after : List ℕ
  more : List ℕ
  inner : List ℕ
  items : List A
  split : rest ≡ before ++ after
  left_is : length after ≡ left
  spelt : before ++ more ≡ inner ++ close ∷ []
  spells : SpellItems inner (map text items)
  some : items ≢ []
  good : AllByRecursion Good items

white_apart : (white : List ℕ) → IsWhite white → IsApart white
white_apart [] w = tt
white_apart (b ∷ bs) w = w.0

item_apart : (close : ℕ) (white item front after last : List ℕ) → IsWhite white → item ≢ [] → Passes (is_before close) item → Stops (is_before close) (white ++ (item ++ after)) → IsApart ((white ++ (item ++ front)) ++ last)
item_apart close [] [] front after last w some run stops = absurd (some refl)
item_apart close [] (b ∷ bs) front after last w some run stops = absurd (false≢true (sym stops ∙ run.0))
item_apart close (b ∷ bs) item front after last w some run stops = w.0

module _ {A : Type 0} (step : List ℕ → Next A) (text key : A → List ℕ) (close : ℕ) (Good : A → Type 0)
    (item_some : (a : A) → Good a → text a ≢ [])
    (item_run : (a : A) → Good a → Passes (is_before close) (text a))
    (takes : (rest : List ℕ) (q : A × List ℕ) → step rest ≡ Ok (Some q) → TookItem text close Good rest q)
    (stops_at : (rest : List ℕ) (s : Stopped) → step rest ≡ Err s → length (behind_white rest) ≡ s.1)
    (sample : A) (is_sample : Good sample) where
  no_items : (rest : List ℕ) → ItemsFront text close Good rest rest
  no_items rest = record { front = []; items = []; split = refl; good = tt; apart = λ stops white w. white_apart white w; spells = λ white w. w }

  one_item : (rest after : List ℕ) (p : A × List ℕ) → TookItem text close Good rest p → ItemsFront text close Good p.1 after → ItemsFront text close Good rest after
  one_item rest after p t f = record {
    front = t.white ++ (text p.0 ++ f.front);
    items = p.0 ∷ f.items;
    split = t.split ∙ ap (λ r. t.white ++ (text p.0 ++ r)) f.split ∙ sym (reordered t.white (text p.0) f.front after);
    good = (t.good, f.good);
    apart = λ stops white w. item_apart close t.white (text p.0) f.front p.1 white t.is_white (item_some p.0 t.good) (item_run p.0 t.good) (subst (Stops (is_before close)) t.split stops);
    spells = λ white w. (t.white, f.front ++ white, reordered t.white (text p.0) f.front white, t.is_white, f.apart t.stops white w, f.spells white w);
  }
    where
      reordered : (a b c d : List ℕ) → (a ++ (b ++ c)) ++ d ≡ a ++ (b ++ (c ++ d))
      reordered a b c d = simp append_assoc refl

  items_before_stop : (n : ℕ) (rest : List ℕ) (all : List A) (s : Stopped) → gathered step (insert_by key) n all rest ≡ Err s → (after : List ℕ) × ItemsFront text close Good rest after × (length (behind_white after) ≡ s.1)
  items_before_stop zero rest all s e = absurd (ok-not _ s e)
  items_before_stop (suc n) rest all s e = from (items_before_stop n) (step rest) refl e
    where
      from : ((rest' : List ℕ) (all' : List A) (s' : Stopped) → gathered step (insert_by key) n all' rest' ≡ Err s' → (after : List ℕ) × ItemsFront text close Good rest' after × (length (behind_white after) ≡ s'.1)) → (next : Next A) → step rest ≡ next → and_next next (Ok (all, rest)) (λ a behind. gathered step (insert_by key) n (insert_by key a all) behind) ≡ Err s → (after : List ℕ) × ItemsFront text close Good rest after × (length (behind_white after) ≡ s.1)
      from more (Err t) was x = (rest, no_items rest, stops_at rest t was ∙ stopped_left t s x)
      from more (Ok None) was x = absurd (ok-not _ s x)
      from more (Ok (Some p)) was x =
          let m = more p.1 (insert_by key p.0 all) s x in
          (m.0, one_item rest m.0 p (takes rest p was) m.1, m.2)

  items_before_end : (n : ℕ) (rest : List ℕ) (all : List A) (q : List A × List ℕ) → gathered step (insert_by key) n all rest ≡ Ok q → ItemsFront text close Good rest q.1
  items_before_end zero rest all q e = subst (λ p. ItemsFront text close Good rest p.1) (ok-same (all, rest) q e) (no_items rest)
  items_before_end (suc n) rest all q e = from (items_before_end n) (step rest) refl e
    where
      from : ((rest' : List ℕ) (all' : List A) (q' : List A × List ℕ) → gathered step (insert_by key) n all' rest' ≡ Ok q' → ItemsFront text close Good rest' q'.1) → (next : Next A) → step rest ≡ next → and_next next (Ok (all, rest)) (λ a behind. gathered step (insert_by key) n (insert_by key a all) behind) ≡ Ok q → ItemsFront text close Good rest q.1
      from more (Err t) was x = absurd cc
      from more (Ok None) was x = subst (λ p. ItemsFront text close Good rest p.1) (ok-same (all, rest) q x) (no_items rest)
      from more (Ok (Some p)) was x = one_item rest q.1 p (takes rest p was) (more p.1 (insert_by key p.0 all) q x)

  end_left : (q : List A × List ℕ) (s : Stopped) → end_list q.0 q.1 ≡ Err s → length (behind_white q.1) ≡ s.1
  unfolding read_list_end
  end_left q s e = from (is_at_end (behind_white q.1)) (is_empty_list q.0) refl e
    where
      from : (at_end empty : Bool) → is_at_end (behind_white q.1) ≡ at_end → with_behind q.0 (cond at_end (Err (Unclosed, 0)) (cond empty (Err (ListEmpty, length (behind_white q.1))) (Ok (behind_white (drop 1 (behind_white q.1)))))) ≡ Err s → length (behind_white q.1) ≡ s.1
      from true empty is x = eqb-true (length (behind_white q.1)) 0 is ∙ stopped_left _ s x
      from false true is x = stopped_left _ s x
      from false false is x = absurd (ok-not _ s x)

  -- a list that has items may end there, and one that has none takes one more
  ends_or_goes_on : (rest after : List ℕ) (left : ℕ) → ItemsFront text close Good rest after → length (behind_white after) ≡ left → BegunList text close Good rest left
  ends_or_goes_on rest after left f is = from f.items f.good f.spells
    where
      white : List ℕ
      white = run_of is_white after

      split : rest ≡ (f.front ++ run_of is_white after) ++ behind_white after
      split = f.split ∙ ap (λ t. f.front ++ t) (run_of-split is_white after) ∙ sym (append_assoc f.front (run_of is_white after) (behind_white after))

      from : (items : List A) → AllByRecursion Good items → ((white : List ℕ) → IsWhite white → SpellItems (f.front ++ white) (map text items)) → BegunList text close Good rest left
      from [] good spells = record {
        before = f.front ++ run_of is_white after;
        after = behind_white after;
        more = text sample ++ close ∷ [];
        inner = (f.front ++ run_of is_white after) ++ (text sample ++ []);
        items = sample ∷ [];
        split = split;
        left_is = is;
        spelt = sym (append_assoc (f.front ++ run_of is_white after) (text sample ++ []) (close ∷ []) ∙ ap (λ t. (f.front ++ run_of is_white after) ++ t) (append_assoc (text sample) [] (close ∷ [])));
        spells = (f.front ++ run_of is_white after, [], refl, spells (run_of is_white after) (run_of-passes is_white after), tt, tt);
        some = cons_not_nil sample [];
        good = (is_sample, tt);
      }
      from (a ∷ items) good spells = record {
        before = f.front ++ run_of is_white after;
        after = behind_white after;
        more = close ∷ [];
        inner = f.front ++ run_of is_white after;
        items = a ∷ items;
        split = split;
        left_is = is;
        spelt = refl;
        spells = spells (run_of is_white after) (run_of-passes is_white after);
        some = cons_not_nil a items;
        good = good;
      }

  list_begun : (rest : List ℕ) (s : Stopped) → and_then (gather step (insert_by key) [] rest) end_list ≡ Err s → BegunList text close Good rest s.1
  unfolding gather
  list_begun rest s e =
      stopped_by (gathered step (insert_by key) (length rest) [] rest) end_list s e
      (λ x. let m = items_before_stop (length rest) rest [] s x in ends_or_goes_on rest m.0 s.1 m.1 m.2)
      (λ q was x. ends_or_goes_on rest q.1 s.1 (items_before_end (length rest) rest [] q was) (end_left q s x))

architecture_left : (negated : Bool) (rest : List ℕ) (s : Stopped) → next_architecture negated rest ≡ Err s → length (behind_white rest) ≡ s.1
unfolding next_architecture
architecture_left negated rest s e =
    let here = behind_white rest in
    let item = run_of (is_before 93) here in
    either (ends_list 93 here) _ _ _ e (λ _ x. absurd (ok-not _ s x)) (λ _ e1.
    either (not (is_arch_name (name_of_item item))) _ _ _ e1 (λ _ x. stopped_left _ s x) (λ _ e2.
    either (not (same_bool (begins 33 item) negated)) _ _ _ e2 (λ _ x. stopped_left _ s x) (λ _ x. absurd (ok-not _ s x))))

restriction_left : (rest : List ℕ) (s : Stopped) → next_restriction rest ≡ Err s → length (behind_white rest) ≡ s.1
unfolding next_restriction
restriction_left rest s e =
    let here = behind_white rest in
    let item = run_of (is_before 62) here in
    either (ends_list 62 here) _ _ _ e (λ _ x. absurd (ok-not _ s x)) (λ _ e1.
    either (not (is_profile_name (name_of_item item))) _ _ _ e1 (λ _ x. stopped_left _ s x) (λ _ x. absurd (ok-not _ s x)))

names_begun : (negated : Bool) (rest : List ℕ) (s : Stopped) → read_names negated rest ≡ Err s → BegunList (signed_text negated) 93 (λ name. IsTrue (is_arch_name name)) rest s.1
unfolding read_names
names_begun negated rest s e =
    list_begun (next_architecture negated) (signed_text negated) itself 93 (λ name. IsTrue (is_arch_name name))
    (λ name good. signed-some negated name (arch_some name good))
    (λ name good. signed_run negated name 93 refl refl (arch_bytes name good))
    (architecture_took negated) (architecture_left negated) (codes "x") refl rest s e

items_begun : (rest : List ℕ) (s : Stopped) → read_restrictions rest ≡ Err s → BegunList item_text 62 (λ item. IsTrue (is_profile_name item.1)) rest s.1
unfolding read_restrictions
items_begun rest s e =
    list_begun next_restriction item_text item_text 62 (λ item. IsTrue (is_profile_name item.1))
    (λ item good. signed-some item.0 item.1 (profile_some item.1 good))
    (λ item good. signed_run item.0 item.1 62 refl refl (profile_bytes item.1 good))
    restriction_took restriction_left (false, codes "x") refl rest s e

pub architectures_begun : (text : List ℕ) (s : Stopped) → read_architectures (behind_white text) ≡ Err s → Begun SpellsArchitectures text s.1
unfolding read_architectures
architectures_begun text s e =
    let here = behind_white text in
    let negated = begins 33 (behind_white (drop 1 here)) in
    either (begins 91 here) _ _ _ e
    (λ begin e1. stopped_by (read_names negated (drop 1 here)) _ s e1
    (λ x. some negated (begins_is 91 here begin) (names_begun negated (drop 1 here) s x))
    (λ q was x. absurd (ok-not _ s x)))
    (λ _ x. absurd (ok-not _ s x))
  where
    some : (negated : Bool) → behind_white text ≡ 91 ∷ drop 1 (behind_white text) → BegunList (signed_text negated) 93 (λ name. IsTrue (is_arch_name name)) (drop 1 (behind_white text)) s.1 → Begun SpellsArchitectures text s.1
    some negated begin l =
        let before = run_of is_white text in
        record {
          before = before ++ (91 ∷ l.before);
          after = l.after;
          more = l.more;
          value = Some (negated, set_of itself l.items);
          split = run_of-split is_white text ∙ ap (λ t. before ++ t) (begin ∙ ap (λ t. 91 ∷ t) l.split) ∙ sym (append_assoc before (91 ∷ l.before) l.after);
          left_is = l.left_is;
          spelled = record {
            before = before;
            inner = l.inner;
            names = l.items;
            spelt = append_assoc before (91 ∷ l.before) l.more ∙ ap (λ t. before ++ (91 ∷ t)) l.spelt;
            before_white = run_of-passes is_white text;
            items = l.spells;
            some = l.some;
            are_names = l.good;
            set = refl;
          };
        }

restrictions_begun : (text : List ℕ) (s : Stopped) → next_restrictions (behind_white text) ≡ Err s → Begun SpellsRestrictions text s.1
unfolding next_restrictions
restrictions_begun text s e =
    either (begins 60 (behind_white text)) _ _ _ e
    (λ begin e1. stopped_by (read_restrictions (drop 1 (behind_white text))) some_next s e1
    (λ x. some (begins_is 60 (behind_white text) begin) (items_begun (drop 1 (behind_white text)) s x))
    (λ q was x. absurd (ok-not _ s x)))
    (λ _ x. absurd (ok-not _ s x))
  where
    some : behind_white text ≡ 60 ∷ drop 1 (behind_white text) → BegunList item_text 62 (λ item. IsTrue (is_profile_name item.1)) (drop 1 (behind_white text)) s.1 → Begun SpellsRestrictions text s.1
    some begin l =
        let before = run_of is_white text in
        record {
          before = before ++ (60 ∷ l.before);
          after = l.after;
          more = l.more;
          value = set_of item_text l.items;
          split = run_of-split is_white text ∙ ap (λ t. before ++ t) (begin ∙ ap (λ t. 60 ∷ t) l.split) ∙ sym (append_assoc before (60 ∷ l.before) l.after);
          left_is = l.left_is;
          spelled = record {
            before = before;
            inner = l.inner;
            members = l.items;
            spelt = append_assoc before (60 ∷ l.before) l.more ∙ ap (λ t. before ++ (60 ∷ t)) l.spelt;
            before_white = run_of-passes is_white text;
            items = l.spells;
            some = l.some;
            are_profiles = l.good;
            set = refl;
          };
        }

lists_begun : (n : ℕ) (text : List ℕ) (all : List Restrictions) (s : Stopped) → gathered next_restrictions (insert_by restrictions_text) n all (behind_white text) ≡ Err s → Begun (SpellInTurn SpellsRestrictions) text s.1
lists_begun zero text all s e = absurd (ok-not _ s e)
lists_begun (suc n) text all s e = from (lists_begun n) (next_restrictions (behind_white text)) refl e
  where
    from : ((text' : List ℕ) (all' : List Restrictions) (s' : Stopped) → gathered next_restrictions (insert_by restrictions_text) n all' (behind_white text') ≡ Err s' → Begun (SpellInTurn SpellsRestrictions) text' s'.1) → (next : Next Restrictions) → next_restrictions (behind_white text) ≡ next → and_next next (Ok (all, behind_white text)) (λ a behind. gathered next_restrictions (insert_by restrictions_text) n (insert_by restrictions_text a all) behind) ≡ Err s → Begun (SpellInTurn SpellsRestrictions) text s.1
    from more (Err t) was x =
        let b = restrictions_begun text t was in
        record {
          before = b.before;
          after = b.after;
          more = b.more;
          value = b.value ∷ [];
          split = b.split;
          left_is = b.left_is ∙ stopped_left t s x;
          spelled = (b.before ++ b.more, [], sym (append-nil (b.before ++ b.more)), b.spelled, refl);
        }
    from more (Ok None) was x = absurd (ok-not _ s x)
    from more (Ok (Some p)) was x =
        let t = list_piece text p was in
        let b = more t.more (insert_by restrictions_text p.0 all) s (subst (λ r. gathered next_restrictions (insert_by restrictions_text) n (insert_by restrictions_text p.0 all) r ≡ Err s) t.behind x) in
        record {
          before = t.piece ++ b.before;
          after = b.after;
          more = b.more;
          value = p.0 ∷ b.value;
          split = t.split ∙ ap (λ r. t.piece ++ r) b.split ∙ sym (append_assoc t.piece b.before b.after);
          left_is = b.left_is;
          spelled = (t.piece, b.before ++ b.more, append_assoc t.piece b.before b.more, t.spelled, b.spelled);
        }

pub formula_begun : (text : List ℕ) (s : Stopped) → read_formula (behind_white text) ≡ Err s → Begun (SpellInTurn SpellsRestrictions) text s.1
unfolding read_formula gather
formula_begun text s e = lists_begun (length (behind_white text)) text [] s e
