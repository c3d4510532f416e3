-- What is read of an architecture list, a restriction list and a formula is spelled there.
use Rattle.std.proofs.Common.{◌≡◌, ◌≢◌, ℕ, zero, suc, ◌≤◌, ◌<◌, Bool, true, false, not, List, [], ◌∷◌, ◌++◌, length, map, drop, IsTrue, Option, Some, None, Ok, Err, refl, sym, ap, ◌∙◌, subst, append_assoc, length-drop, codes, cond, ◌==◌, ◌||◌, arith}
use Rattle.std.specs.List.{AllByRecursion, prefix_len}
use Rattle.std.proofs.lemmas.Bool.{false≢true}
use Rattle.std.proofs.lemmas.List.{length-append}
use Rattle.std.proofs.lemmas.Bool.Decides.{Decides-eqb}
use Rattle.deb_base.specs.PackageNames.{is_arch_name, is_profile_name}
use Rattle.deb_relation.specs.declared.fault.Reason.TheVariants.{Unclosed, ListEmpty, ItemBad, MixedSigns}
use Rattle.deb_relation.specs.Grammar.{IsWhite, IsApart, SpellItems, SpellInTurn, set_with, SpellsArchitectures, SpellsRestrictions}
use Rattle.deb_relation.specs.Meaning.{Item, Restrictions}
use Rattle.deb_relation.specs.Reading.{Stopped, Next, and_then, and_next, gathered, gather, begins, behind_run, behind_white, is_at_end, is_before, is_white, run_of, ends_list, name_of_item, next_architecture, next_restriction, read_list_end, with_behind, end_list, is_empty_list, read_names, read_architectures, read_restrictions, some_next, next_restrictions, read_formula}
use Rattle.deb_relation.specs.Sets.{insert_by, itself, same_bool}
use Rattle.deb_relation.specs.Texts.{signed_text, item_text, restrictions_text}
use Rattle.deb_relation.proofs.Bytes.{signed-some, arch_bytes, profile_bytes, arch_some, profile_some, signed_run}
use Rattle.deb_relation.proofs.Gathering.{IsStep}
use Rattle.deb_relation.proofs.ReadParts.{either, WentOn, went_on, stopped-no, ok-same, begins_is, TookWhite}
use Rattle.deb_relation.proofs.Runs.{Passes, Stops, run_of-split, run_of-passes, behind_run-stops}

-- an item that is read, and what is after it
pub record TookItem {A : Type 0} (text : A → List ℕ) (close : ℕ) (Good : A → Type 0) (rest : List ℕ) (q : A × List ℕ) : Type 0 where
  pub white : List ℕ
  pub split : rest ≡ white ++ (text q.0 ++ q.1)
  pub is_white : IsWhite white
  pub good : Good q.0
  pub stops : Stops (is_before close) q.1

-- after an item white space comes, before a further one
apart_item : (close : ℕ) (white item behind more : List ℕ) → IsWhite white → item ≢ [] → Passes (is_before close) item → Stops (is_before close) ((white ++ (item ++ behind)) ++ more) → IsApart (white ++ (item ++ behind))
apart_item close [] [] behind more w some run stops = absurd (some refl)
apart_item close [] (b ∷ bs) behind more w some run stops = absurd (false≢true (sym stops ∙ run.0))
apart_item close (b ∷ bs) item behind more w some run stops = w.0

apart_white : (white : List ℕ) → IsWhite white → IsApart white
apart_white [] w = tt
apart_white (b ∷ bs) w = w.0

-- what is gathered of a list up to its end
record Gathered {A : Type 0} (text key : A → List ℕ) (close : ℕ) (Good : A → Type 0) (rest : List ℕ) (all : List A) (q : List A × List ℕ) : Type 0 where
  pub items : List A
  pub good : AllByRecursion Good items
  pub set : q.0 ≡ set_with key items all
  ended : ends_list close (behind_white q.1) ≡ true
  pub spells : (white more : List ℕ) → IsWhite white → q.1 ≡ white ++ close ∷ more → (inner : List ℕ) × (rest ≡ inner ++ close ∷ more) × SpellItems inner (map text items)

-- a whole list after its opening byte
pub record TookList {A : Type 0} (text key : A → List ℕ) (close : ℕ) (Good : A → Type 0) (rest : List ℕ) (q : List A × List ℕ) : Type 0 where
  pub inner : List ℕ
  pub more : List ℕ
  pub items : List A
  pub split : rest ≡ inner ++ close ∷ more
  pub after : q.1 ≡ behind_white more
  pub spells : SpellItems inner (map text items)
  pub some : items ≢ []
  pub good : AllByRecursion Good items
  pub set : q.0 ≡ set_with key items []

module _ {A : Type 0} (step : List ℕ → Next A) (is : IsStep step) (text key : A → List ℕ) (close : ℕ) (Good : A → Type 0)
    (item_some : (a : A) → Good a → text a ≢ [])
    (item_run : (a : A) → Good a → Passes (is_before close) (text a))
    (none : (rest : List ℕ) → step rest ≡ Ok None → ends_list close (behind_white rest) ≡ true)
    (takes : (rest : List ℕ) (q : A × List ℕ) → step rest ≡ Ok (Some q) → TookItem text close Good rest q) where
  apart_items : (inner more : List ℕ) (items : List A) → SpellItems inner (map text items) → AllByRecursion Good items → Stops (is_before close) (inner ++ more) → IsApart inner
  apart_items inner more [] spells good stops = apart_white inner spells
  apart_items inner more (a ∷ items) spells good stops =
      subst IsApart (sym spells.2) (apart_item close spells.0 (text a) spells.1 more spells.3 (item_some a good.0) (item_run a good.0) (subst (λ t. Stops (is_before close) (t ++ more)) spells.2 stops))

  nothing : (rest : List ℕ) (all : List A) (q : List A × List ℕ) → (all, rest) ≡ q → ends_list close (behind_white rest) ≡ true → Gathered text key close Good rest all q
  nothing rest all q same ended = subst (Gathered text key close Good rest all) same (record {
    items = [];
    good = tt;
    set = refl;
    ended = ended;
    spells = λ white more w e. (white, e, w);
  })

  further : (rest : List ℕ) (all : List A) (q : List A × List ℕ) (p : A × List ℕ) → TookItem text close Good rest p → Gathered text key close Good p.1 (insert_by key p.0 all) q → Gathered text key close Good rest all q
  further rest all q p t g = record {
    items = p.0 ∷ g.items;
    good = (t.good, g.good);
    set = g.set;
    ended = g.ended;
    spells = λ white more w e.
        let s = g.spells white more w e in
        let apart = apart_items s.0 (close ∷ more) g.items s.2 g.good (subst (Stops (is_before close)) s.1 t.stops) in
        (t.white ++ (text p.0 ++ s.0), t.split ∙ ap (λ r. t.white ++ (text p.0 ++ r)) s.1 ∙ reordered t.white (text p.0) s.0 (close ∷ more), (t.white, s.0, refl, t.is_white, apart, s.2));
  }
    where
      reordered : (a b c d : List ℕ) → a ++ (b ++ (c ++ d)) ≡ (a ++ (b ++ c)) ++ d
      reordered a b c d = simp append_assoc refl

  gathered_items : (n : ℕ) (rest : List ℕ) (all : List A) (q : List A × List ℕ) → length rest ≤ n → gathered step (insert_by key) n all rest ≡ Ok q → Gathered text key close Good rest all q
  gathered_items zero [] all q le e = nothing [] all q (ok-same _ _ e) refl
  gathered_items zero (b ∷ bs) all q le e = absurd (omega arith)
  gathered_items (suc n) rest all q le e = from (gathered_items n) (step rest) refl e
    where
      from : ((rest' : List ℕ) (all' : List A) (q' : List A × List ℕ) → length rest' ≤ n → gathered step (insert_by key) n all' rest' ≡ Ok q' → Gathered text key close Good rest' all' q') → (next : Next A) → step rest ≡ next → and_next next (Ok (all, rest)) (λ a behind. gathered step (insert_by key) n (insert_by key a all) behind) ≡ Ok q → Gathered text key close Good rest all q
      from more (Err stopped) was x = absurd (stopped-no _ _ x)
      from more (Ok None) was x = nothing rest all q (ok-same _ _ x) (none rest was)
      from more (Ok (Some p)) was x =
          let less : length p.1 < length rest = is.shrinks rest p.0 p.1 was in
          further rest all q p (takes rest p was) (more p.1 (insert_by key p.0 all) q (omega arith) x)

  -- the end of the list
  ended_list : (rest : List ℕ) (p q : List A × List ℕ) → Gathered text key close Good rest [] p → end_list p.0 p.1 ≡ Ok q → TookList text key close Good rest q
  unfolding read_list_end
  ended_list rest p q g e =
      from (is_at_end (behind_white p.1)) (is_empty_list p.0) refl refl e
    where
      begins_close : (t : List ℕ) → is_at_end t ≡ false → ends_list close t ≡ true → begins close t ≡ true
      begins_close t at_end ended = sym (ap (λ b. b || begins close t) at_end) ∙ ended

      from : (at_end empty : Bool) → is_at_end (behind_white p.1) ≡ at_end → is_empty_list p.0 ≡ empty → with_behind p.0 (cond at_end (Err (Unclosed, 0)) (cond empty (Err (ListEmpty, length (behind_white p.1))) (Ok (behind_white (drop 1 (behind_white p.1)))))) ≡ Ok q → TookList text key close Good rest q
      from true empty a b x = absurd (stopped-no _ _ x)
      from false true a b x = absurd (stopped-no _ _ x)
      from false false a b x =
          let closed = begins_is close (behind_white p.1) (begins_close (behind_white p.1) a g.ended) in
          let s = g.spells (run_of is_white p.1) (drop 1 (behind_white p.1)) (run_of-passes is_white p.1) (run_of-split is_white p.1 ∙ ap (λ t. run_of is_white p.1 ++ t) closed) in
          subst (TookList text key close Good rest) (ok-same _ _ x) (record {
            inner = s.0;
            more = drop 1 (behind_white p.1);
            items = g.items;
            split = s.1;
            after = refl;
            spells = s.2;
            some = λ none_is. false≢true (sym b ∙ ap is_empty_list (g.set ∙ ap (λ items. set_with key items []) none_is));
            good = g.good;
            set = g.set;
          })

  pub list_took : (rest : List ℕ) (q : List A × List ℕ) → and_then (gather step (insert_by key) [] rest) end_list ≡ Ok q → TookList text key close Good rest q
  unfolding gather
  list_took rest q e =
      let s = went_on (gathered step (insert_by key) (length rest) [] rest) end_list q e in
      ended_list rest s.first q (gathered_items (length rest) rest [] s.first (omega arith) s.was) s.then

-- the items of both kinds of list
ends_or : (b : Bool) (stopped : Stopped) {A : Type 0} (x : Next A) → (b ≡ false → x ≡ Ok None → ⊥) → cond b (Ok None) x ≡ Ok None → b ≡ true
ends_or true stopped x others e = refl
ends_or false stopped x others e = absurd (others refl e)

no_none : {A : Type 0} (b : Bool) (stopped : Stopped) (x : Next A) → (x ≡ Ok None → ⊥) → cond b (Err stopped) x ≡ Ok None → ⊥
no_none true stopped x others e = cc
no_none false stopped x others e = others e

pub some_none : {A : Type 0} (q : A × List ℕ) → let r : Next A = Ok (Some q) in r ≡ Ok None → ⊥
some_none q e = cc

pub none_some : {A : Type 0} (q : A × List ℕ) → let r : Next A = Ok None in r ≡ Ok (Some q) → ⊥
none_some q e = cc

pub some_same : {A : Type 0} (p q : A × List ℕ) → let r : Next A = Ok (Some p) in r ≡ Ok (Some q) → p ≡ q
some_same p q e = cc

pub err_some : {A : Type 0} (stopped : Stopped) (q : A × List ℕ) → let r : Next A = Err stopped in r ≡ Ok (Some q) → ⊥
err_some stopped q e = cc

architecture_none : (negated : Bool) (rest : List ℕ) → next_architecture negated rest ≡ Ok None → ends_list 93 (behind_white rest) ≡ true
unfolding next_architecture
architecture_none negated rest e =
    let here = behind_white rest in
    let item = run_of (is_before 93) here in
    ends_or (ends_list 93 here) (ItemBad, length here) _ (λ _ x.
    no_none (not (is_arch_name (name_of_item item))) (ItemBad, length here) _ (λ y.
    no_none (not (same_bool (begins 33 item) negated)) (MixedSigns, length here) _ (λ z. some_none _ z) y) x) e

restriction_none : (rest : List ℕ) → next_restriction rest ≡ Ok None → ends_list 62 (behind_white rest) ≡ true
unfolding next_restriction
restriction_none rest e =
    let here = behind_white rest in
    let item = run_of (is_before 62) here in
    ends_or (ends_list 62 here) (ItemBad, length here) _ (λ _ x.
    no_none (not (is_profile_name (name_of_item item))) (ItemBad, length here) _ (λ z. some_none _ z) x) e

-- an item is its sign and its name
signed-item : (item : List ℕ) → item ≡ signed_text (begins 33 item) (name_of_item item)
signed-item [] = refl
signed-item (b ∷ bs) = by_test (b == 33) refl
  where
    by_test : (v : Bool) → (b == 33) ≡ v → b ∷ bs ≡ signed_text v (cond v bs (b ∷ bs))
    by_test true e = ap (λ c. c ∷ bs) ((Decides-eqb b 33).0 e)
    by_test false e = refl

same_sign : (a b : Bool) → same_bool a b ≡ true → a ≡ b
same_sign true true e = refl
same_sign true false e = cc
same_sign false true e = cc
same_sign false false e = refl

not_true : (b : Bool) → not b ≡ false → b ≡ true
not_true true e = refl
not_true false e = cc

pub architecture_took : (negated : Bool) (rest : List ℕ) (q : List ℕ × List ℕ) → next_architecture negated rest ≡ Ok (Some q) → TookItem (signed_text negated) 93 (λ name. IsTrue (is_arch_name name)) rest q
unfolding next_architecture
architecture_took negated rest q e =
    let here = behind_white rest in
    let item = run_of (is_before 93) here in
    either (ends_list 93 here) _ _ _ e (λ _ x. absurd (none_some _ x)) (λ _ e1.
    either (not (is_arch_name (name_of_item item))) _ _ _ e1 (λ _ x. absurd (err_some _ _ x)) (λ good e2.
    either (not (same_bool (begins 33 item) negated)) _ _ _ e2 (λ _ x. absurd (err_some _ _ x)) (λ sign e3.
    subst (TookItem (signed_text negated) 93 (λ name. IsTrue (is_arch_name name)) rest) (some_same _ _ e3) (record {
      white = run_of is_white rest;
      split = run_of-split is_white rest ∙ ap (λ t. run_of is_white rest ++ t) (run_of-split (is_before 93) here ∙ ap (λ t. t ++ behind_run (is_before 93) here) (signed-item item ∙ ap (λ s. signed_text s (name_of_item item)) (same_sign (begins 33 item) negated (not_true _ sign))));
      is_white = run_of-passes is_white rest;
      good = not_true _ good;
      stops = behind_run-stops (is_before 93) here;
    }))))

pub restriction_took : (rest : List ℕ) (q : Item × List ℕ) → next_restriction rest ≡ Ok (Some q) → TookItem item_text 62 (λ item. IsTrue (is_profile_name item.1)) rest q
unfolding next_restriction
restriction_took rest q e =
    let here = behind_white rest in
    let item = run_of (is_before 62) here in
    either (ends_list 62 here) _ _ _ e (λ _ x. absurd (none_some _ x)) (λ _ e1.
    either (not (is_profile_name (name_of_item item))) _ _ _ e1 (λ _ x. absurd (err_some _ _ x)) (λ good e2.
    subst (TookItem item_text 62 (λ item. IsTrue (is_profile_name item.1)) rest) (some_same _ _ e2) (record {
      white = run_of is_white rest;
      split = run_of-split is_white rest ∙ ap (λ t. run_of is_white rest ++ t) (run_of-split (is_before 62) here ∙ ap (λ t. t ++ behind_run (is_before 62) here) (signed-item item));
      is_white = run_of-passes is_white rest;
      good = not_true _ good;
      stops = behind_run-stops (is_before 62) here;
    })))

-- an item that is taken leaves fewer bytes
item_shrinks : {A : Type 0} (text : A → List ℕ) (close : ℕ) (Good : A → Type 0) (rest : List ℕ) (q : A × List ℕ) → text q.0 ≢ [] → TookItem text close Good rest q → length q.1 < length rest
item_shrinks text close Good rest q some t = by_item (text q.0) some t.split
  where
    by_item : (item : List ℕ) → item ≢ [] → rest ≡ t.white ++ (item ++ q.1) → length q.1 < length rest
    by_item [] some e = absurd (some refl)
    by_item (b ∷ bs) some e = omega (arith, ap length e, length-append t.white ((b ∷ bs) ++ q.1), length-append bs q.1)

pub step-next_architecture : (negated : Bool) → IsStep (next_architecture negated)
unfolding next_architecture
step-next_architecture negated = record {
  ends = refl;
  shrinks = λ rest name behind e. let t = architecture_took negated rest (name, behind) e in item_shrinks (signed_text negated) 93 _ rest (name, behind) (signed-some negated name (arch_some name t.good)) t;
}

pub step-next_restriction : IsStep next_restriction
unfolding next_restriction
step-next_restriction = record {
  ends = refl;
  shrinks = λ rest item behind e. let t = restriction_took rest (item, behind) e in item_shrinks item_text 62 _ rest (item, behind) (signed-some item.0 item.1 (profile_some item.1 t.good)) t;
}

names_took : (negated : Bool) (rest : List ℕ) (q : List (List ℕ) × List ℕ) → read_names negated rest ≡ Ok q → TookList (signed_text negated) itself 93 (λ name. IsTrue (is_arch_name name)) rest q
unfolding read_names
names_took negated rest q e =
    list_took (next_architecture negated) (step-next_architecture negated) (signed_text negated) itself 93 (λ name. IsTrue (is_arch_name name))
    (λ name good. signed-some negated name (arch_some name good))
    (λ name good. signed_run negated name 93 refl refl (arch_bytes name good))
    (architecture_none negated) (architecture_took negated) rest q e

pub restrictions_took : (rest : List ℕ) (q : Restrictions × List ℕ) → read_restrictions rest ≡ Ok q → TookList item_text item_text 62 (λ item. IsTrue (is_profile_name item.1)) rest q
unfolding read_restrictions
restrictions_took rest q e =
    list_took next_restriction step-next_restriction item_text item_text 62 (λ item. IsTrue (is_profile_name item.1))
    (λ item good. signed-some item.0 item.1 (profile_some item.1 good))
    (λ item good. signed_run item.0 item.1 62 refl refl (profile_bytes item.1 good))
    restriction_none restriction_took rest q e

bracketed : (before : List ℕ) (begin : ℕ) (inner : List ℕ) (close : ℕ) (more : List ℕ) → before ++ (begin ∷ (inner ++ close ∷ more)) ≡ (before ++ (begin ∷ (inner ++ close ∷ []))) ++ more
bracketed before begin inner close more = simp append_assoc refl

pub architectures_took : (text : List ℕ) (q : Option (Bool × List (List ℕ)) × List ℕ) → read_architectures (behind_white text) ≡ Ok q → TookWhite SpellsArchitectures text q
unfolding read_architectures
architectures_took text q e =
    let here = behind_white text in
    let negated = begins 33 (behind_white (drop 1 here)) in
    either (begins 91 here) _ _ _ e
    (λ begin e1. some negated (begins_is 91 here begin) (went_on (read_names negated (drop 1 here)) _ q e1))
    (λ _ e1. subst (TookWhite SpellsArchitectures text) (ok-same _ _ e1) (record { piece = []; more = text; split = refl; behind = refl; spelled = refl }))
  where
    some : (negated : Bool) → behind_white text ≡ 91 ∷ drop 1 (behind_white text) → WentOn (read_names negated (drop 1 (behind_white text))) (λ names rest. Ok (Some (negated, names), rest)) q → TookWhite SpellsArchitectures text q
    some negated begin s =
        let l = names_took negated (drop 1 (behind_white text)) s.first s.was in
        let before = run_of is_white text in
        subst (TookWhite SpellsArchitectures text) (ok-same _ _ s.then) (record {
          piece = before ++ (91 ∷ (l.inner ++ codes "]"));
          more = l.more;
          split = run_of-split is_white text ∙ ap (λ t. before ++ t) (begin ∙ ap (λ t. 91 ∷ t) l.split) ∙ bracketed before 91 l.inner 93 l.more;
          behind = l.after;
          spelled = record {
            before = before;
            inner = l.inner;
            names = l.items;
            spelt = refl;
            before_white = run_of-passes is_white text;
            items = l.spells;
            some = l.some;
            are_names = l.good;
            set = l.set;
          };
        })

pub list_piece : (text : List ℕ) (q : Restrictions × List ℕ) → next_restrictions (behind_white text) ≡ Ok (Some q) → TookWhite SpellsRestrictions text q
unfolding next_restrictions
list_piece text q e =
    either (begins 60 (behind_white text)) _ _ _ e
    (λ begin e1. some (begins_is 60 (behind_white text) begin) (went_on (read_restrictions (drop 1 (behind_white text))) some_next (Some q) e1))
    (λ _ x. absurd (none_some _ x))
  where
    some : behind_white text ≡ 60 ∷ drop 1 (behind_white text) → WentOn (read_restrictions (drop 1 (behind_white text))) some_next (Some q) → TookWhite SpellsRestrictions text q
    some begin s =
        let l = restrictions_took (drop 1 (behind_white text)) s.first s.was in
        let before = run_of is_white text in
        subst (TookWhite SpellsRestrictions text) (some_same _ _ s.then) (record {
          piece = before ++ (60 ∷ (l.inner ++ codes ">"));
          more = l.more;
          split = run_of-split is_white text ∙ ap (λ t. before ++ t) (begin ∙ ap (λ t. 60 ∷ t) l.split) ∙ bracketed before 60 l.inner 62 l.more;
          behind = l.after;
          spelled = record {
            before = before;
            inner = l.inner;
            members = l.items;
            spelt = refl;
            before_white = run_of-passes is_white text;
            items = l.spells;
            some = l.some;
            are_profiles = l.good;
            set = l.set;
          };
        })

-- a list in angle brackets leaves fewer bytes
pub step-next_restrictions : IsStep next_restrictions
unfolding next_restrictions
step-next_restrictions = record {
  ends = refl;
  shrinks = λ rest list behind e. either (begins 60 rest) _ _ _ e
      (λ begin e1.
      let s = went_on (read_restrictions (drop 1 rest)) some_next (Some (list, behind)) e1 in
      let l = restrictions_took (drop 1 rest) s.first s.was in
      let same = ap (λ q. length q.1) (some_same _ _ s.then) in
      omega (arith, same, ap length (begins_is 60 rest begin), ap length l.split, length-append l.inner (62 ∷ l.more), ap length l.after, length-drop (prefix_len is_white l.more) l.more))
      (λ _ x. absurd (none_some _ x));
}

-- a formula at the beginning of a text
pub record TookFormula (text : List ℕ) (all : List Restrictions) (q : List Restrictions × List ℕ) : Type 0 where
  pub piece : List ℕ
  pub more : List ℕ
  pub lists : List Restrictions
  pub split : text ≡ piece ++ more
  pub behind : q.1 ≡ behind_white more
  pub spell : SpellInTurn SpellsRestrictions piece lists
  pub set : q.0 ≡ set_with restrictions_text lists all

no_list : (text : List ℕ) (all : List Restrictions) (q : List Restrictions × List ℕ) → (all, behind_white text) ≡ q → TookFormula text all q
no_list text all q same = subst (TookFormula text all) same (record { piece = []; more = text; lists = []; split = refl; behind = refl; spell = refl; set = refl })

one_list : (text : List ℕ) (all : List Restrictions) (q : List Restrictions × List ℕ) (p : Restrictions × List ℕ) (t : TookWhite SpellsRestrictions text p) → TookFormula t.more (insert_by restrictions_text p.0 all) q → TookFormula text all q
one_list text all q p t f = record {
  piece = t.piece ++ f.piece;
  more = f.more;
  lists = p.0 ∷ f.lists;
  split = t.split ∙ ap (λ r. t.piece ++ r) f.split ∙ sym (append_assoc t.piece f.piece f.more);
  behind = f.behind;
  spell = (t.piece, f.piece, refl, t.spelled, f.spell);
  set = f.set;
}

lists_took : (n : ℕ) (text : List ℕ) (all : List Restrictions) (q : List Restrictions × List ℕ) → gathered next_restrictions (insert_by restrictions_text) n all (behind_white text) ≡ Ok q → TookFormula text all q
lists_took zero text all q e = no_list text all q (ok-same _ _ e)
lists_took (suc n) text all q e = from (lists_took n) (next_restrictions (behind_white text)) refl e
  where
    from : ((text' : List ℕ) (all' : List Restrictions) (q' : List Restrictions × List ℕ) → gathered next_restrictions (insert_by restrictions_text) n all' (behind_white text') ≡ Ok q' → TookFormula text' all' q') → (next : Next Restrictions) → next_restrictions (behind_white text) ≡ next → and_next next (Ok (all, behind_white text)) (λ a behind. gathered next_restrictions (insert_by restrictions_text) n (insert_by restrictions_text a all) behind) ≡ Ok q → TookFormula text all q
    from more (Err stopped) was x = absurd (stopped-no _ _ x)
    from more (Ok None) was x = no_list text all q (ok-same _ _ x)
    from more (Ok (Some p)) was x =
        let t = list_piece text p was in
        one_list text all q p t (more t.more (insert_by restrictions_text p.0 all) q (subst (λ r. gathered next_restrictions (insert_by restrictions_text) n (insert_by restrictions_text p.0 all) r ≡ Ok q) t.behind x))

pub formula_took : (text : List ℕ) (q : List Restrictions × List ℕ) → read_formula (behind_white text) ≡ Ok q → TookFormula text [] q
unfolding read_formula gather
formula_took text q e = lists_took (length (behind_white text)) text [] q e
