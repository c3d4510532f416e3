-- What is known of the paragraphs that were kept while a file is read, and at its end.
use Rattle.std.proofs.Common.{◌≡◌, ℕ, ◌+◌, Bool, true, false, cond, is_none, is_some, List, [], ◌∷◌, ◌++◌, length, map, Option, None, Some, Ok, refl, sym, ap, ◌∙◌, subst, arith, append-nil}
use Rattle.std.specs.Option.{option_map}
use Rattle.deb_syntax.specs.Answers.{Seen, next_answer}
use Rattle.deb_field.specs.Values.{ValueMeaning}
use Rattle.deb_control.specs.Documents.{Meaning}
use Rattle.deb_control.specs.GivenParagraphs.{AreNext}
use Rattle.deb_control.specs.Pairs.{Pairwise}
use Rattle.deb_control.specs.Paragraphs.{AreValuesOf}
use Rattle.deb_control.specs.ValueFiles.{ValueEntries}
use Rattle.deb_control.proofs.GivenValues.{accepted-given, pairwise-length, pairwise-push}
use Rattle.deb_control.proofs.ShownSoFar.{ShownAll}
use Rattle.deb_diff.specs.Items.{Item, item_of, items_from, items_of, whole}
use Rattle.deb_diff.specs.Kepts.{AreKept, IsKept}
use Rattle.deb_diff.specs.Kinds.{doc_of}
use Rattle.deb_diff.specs.Pairing.{all_but, earliest, without}
use Rattle.deb_diff.specs.Pools.{IsPoolOf, Takes, left_in}
use Rattle.deb_diff.specs.Spelled.{fields_of_seen}
use Rattle.deb_diff.specs.Sifting.{Sifts, SiftsFile, items_in}
use Rattle.deb_diff.specs.declared.kept.Kept.{Kept}
use Rattle.deb_diff.specs.declared.kind.Kind.{Kind}
use Rattle.deb_diff.specs.declared.pool.Pool.{Pool}
use Rattle.deb_diff.proofs.Pairs.{unpaired, unpaired-left}
use Rattle.deb_diff.proofs.Picked.{all_but-map, earliest-map}

same_some : (o : Option (ℕ × Item)) (number : Option ℕ) → number ≡ option_map (λ e. e.0) o → is_some number ≡ is_some (option_map (λ e. e.1) o)
same_some None number e = ap is_some e
same_some (Some x) number e = ap is_some e

-- whether one was taken, by the paragraphs that wait
pub taken-some : (others : List Item) (key : Item → List ℕ) (wanted : List ℕ) (old new : Pool) (number : Option ℕ) → Takes others key wanted old number new → is_some number ≡ is_some (earliest key wanted (items_in others old))
taken-some others key wanted old new number takes =
    same_some _ number takes.found ∙ ap is_some (sym (earliest-map (λ e. e.1) key wanted (left_in others old)))

pub taken-left : (others : List Item) (key : Item → List ℕ) (wanted : List ℕ) (old new : Pool) (number : Option ℕ) → Takes others key wanted old number new → items_in others new ≡ all_but key wanted (items_in others old)
taken-left others key wanted old new number takes =
    ap (map (λ e. e.1)) takes.left ∙ sym (all_but-map (λ e. e.1) key wanted (left_in others old))

-- a paragraph was taken away, or kept
pub sifts-taken : (item : Item) (others : List Item) (old new : Pool) (wanted : List ℕ) (number : ℕ) (kept : List Kept) → wanted ≡ whole item → Takes others whole wanted old (Some number) new → Sifts item others old new kept kept
sifts-taken item others old new wanted number kept is takes =
    let some : is_some (earliest whole (whole item) (items_in others old)) ≡ true = ap (λ w. is_some (earliest whole w (items_in others old))) (sym is) ∙ sym (taken-some others whole wanted old new (Some number) takes) in
    record {
      is_pool = takes.is_pool;
      left = taken-left others whole wanted old new (Some number) takes ∙ ap (λ w. all_but whole w (items_in others old)) is;
      kept = λ items are. subst (λ b. AreKept kept (items ++ cond b [] (item ∷ []))) (sym some) (subst (AreKept kept) (sym (append-nil items)) are);
    }

pub sifts-some : (item : Item) (others : List Item) (old new : Pool) (wanted : List ℕ) (number : Option ℕ) (kept : List Kept) → wanted ≡ whole item → is_none number ≡ false → Takes others whole wanted old number new → Sifts item others old new kept kept
sifts-some item others old new wanted (Some number) kept is some takes = sifts-taken item others old new wanted number kept is takes
sifts-some item others old new wanted None kept is some takes = cc some

pub sifts-kept : (item : Item) (others : List Item) (old new : Pool) (wanted : List ℕ) (before : List Kept) (one : Kept) → wanted ≡ whole item → Takes others whole wanted old None new → IsKept one item → Sifts item others old new before (before ++ one ∷ [])
sifts-kept item others old new wanted before one is takes kept =
    let none : is_some (earliest whole (whole item) (items_in others old)) ≡ false = ap (λ w. is_some (earliest whole w (items_in others old))) (sym is) ∙ sym (taken-some others whole wanted old new None takes) in
    record {
      is_pool = takes.is_pool;
      left = taken-left others whole wanted old new None takes ∙ ap (λ w. all_but whole w (items_in others old)) is;
      kept = λ items are. subst (λ b. AreKept (before ++ one ∷ []) (items ++ cond b [] (item ∷ []))) (sym none) (pairwise-push IsKept before items one item are kept);
    }

-- lists with one element more
without-push : (xs ys : List Item) (y : Item) → without whole xs (ys ++ y ∷ []) ≡ all_but whole (whole y) (without whole xs ys)
without-push xs [] y = refl
without-push xs (z ∷ ys) y = without-push (all_but whole (whole z) xs) ys y

unpaired-push : (xs ys : List Item) (x : Item) → unpaired whole (xs ++ x ∷ []) ys ≡ unpaired whole xs ys ++ cond (is_some (earliest whole (whole x) (without whole ys xs))) [] (x ∷ [])
unpaired-push [] ys x = refl
unpaired-push (z ∷ xs) ys x = go (is_some (earliest whole (whole z) ys)) (unpaired-push xs (all_but whole (whole z) ys) x)
  where
    rest : List Item
    rest = all_but whole (whole z) ys

    go : (b : Bool) → unpaired whole (xs ++ x ∷ []) rest ≡ unpaired whole xs rest ++ cond (is_some (earliest whole (whole x) (without whole rest xs))) [] (x ∷ [])
        → cond b (unpaired whole (xs ++ x ∷ []) rest) (z ∷ unpaired whole (xs ++ x ∷ []) rest) ≡ cond b (unpaired whole xs rest) (z ∷ unpaired whole xs rest) ++ cond (is_some (earliest whole (whole x) (without whole rest xs))) [] (x ∷ [])
    go true h = h
    go false h = ap (λ l. z ∷ l) h

-- paragraphs that were given after so many
abbrev pub items_given : Kind → ℕ → List Seen → Meaning → List Item
items_given kind n (seen ∷ given) (values ∷ more) = item_of kind (n + 1) seen.fields values ∷ items_given kind (n + 1) given more
items_given kind n given values = []

items_given-push : (kind : Kind) (n : ℕ) (given : List Seen) (values : Meaning) (seen : Seen) (more : ValueEntries ValueMeaning) → length values ≡ length given → items_given kind n (given ++ seen ∷ []) (values ++ more ∷ []) ≡ items_given kind n given values ++ item_of kind (n + length given + 1) seen.fields more ∷ []
items_given-push kind n [] [] seen more same = ap (λ k. item_of kind (k + 1) seen.fields more ∷ []) (omega arith)
items_given-push kind n [] (v ∷ values) seen more same = absurd (omega (arith, same))
items_given-push kind n (first ∷ given) [] seen more same = absurd (omega (arith, same))
items_given-push kind n (first ∷ given) (v ∷ values) seen more same =
    ap (λ l. item_of kind (n + 1) first.fields v ∷ l)
    (items_given-push kind (n + 1) given values seen more (omega (arith, same)) ∙ ap (λ k. items_given kind (n + 1) given values ++ item_of kind (k + 1) seen.fields more ∷ []) (omega arith))

-- they are those of the file
given-items : (kind : Kind) (text : List ℕ) (n : ℕ) (given : List Seen) (values : Meaning) → length values ≡ length given → AreNext text n given → items_given kind n given values ≡ items_from kind text n values
given-items kind text n [] [] same next = refl
given-items kind text n [] (v ∷ values) same next = absurd (omega (arith, same))
given-items kind text n (seen ∷ given) [] same next = refl
given-items kind text n (seen ∷ given) (v ∷ values) same next =
    ap (λ f. item_of kind (n + 1) f v ∷ items_given kind (n + 1) given values) (sym (ap fields_of_seen next.0))
    ∙ ap (λ l. item_of kind (n + 1) (fields_of_seen (next_answer text n)) v ∷ l) (given-items kind text (n + 1) given values (omega (arith, same)) next.1)

-- These paragraphs were taken away, or they are kept.
pub record HasSifted (kind : Kind) (others : List Item) (old new : Pool) (kept : List Kept) (given : List Seen) : Type 0 where
  pub values : Meaning
  pub are : Pairwise (AreValuesOf (doc_of kind)) given values
  pub is_pool : IsPoolOf (map whole others) new
  pub left_is : items_in others new ≡ without whole (items_in others old) (items_given kind 0 given values)
  pub are_kept : AreKept kept (unpaired whole (items_given kind 0 given values) (items_in others old))

pub none_sifted : (kind : Kind) (others : List Item) (pool : Pool) → IsPoolOf (map whole others) pool → HasSifted kind others pool pool [] []
none_sifted kind others pool is_pool = record { values = []; are = tt; is_pool = is_pool; left_is = refl; are_kept = tt }

-- one paragraph more
pub one_sifted : (kind : Kind) (others : List Item) (old now new : Pool) (kept kept_new : List Kept) (given : List Seen) (count : ℕ) (values : ValueEntries ValueMeaning) (seen : Seen)
    → HasSifted kind others old now kept given → length given ≡ count → AreValuesOf (doc_of kind) seen values
    → Sifts (item_of kind (count + 1) seen.fields values) others now new kept kept_new → HasSifted kind others old new kept_new (given ++ seen ∷ [])
one_sifted kind others old now new kept kept_new given count values seen has counted are sifts =
    let item = item_of kind (count + 1) seen.fields values in
    let items = items_given kind 0 given has.values in
    let waiting = items_in others old in
    let same : length has.values ≡ length given = pairwise-length (AreValuesOf (doc_of kind)) given has.values has.are in
    let from_start : 0 + length given ≡ count = omega (arith, counted) in
    let more : items_given kind 0 (given ++ seen ∷ []) (has.values ++ values ∷ []) ≡ items ++ item ∷ [] = items_given-push kind 0 given has.values seen values same ∙ ap (λ k. items ++ item_of kind (k + 1) seen.fields values ∷ []) from_start in
    record {
      values = has.values ++ values ∷ [];
      are = pairwise-push (AreValuesOf (doc_of kind)) given has.values seen values has.are are;
      is_pool = sifts.is_pool;
      left_is = sifts.left ∙ ap (all_but whole (whole item)) has.left_is ∙ sym (without-push waiting items item) ∙ ap (without whole waiting) (sym more);
      are_kept = subst (λ l. AreKept kept_new (unpaired whole l waiting)) (sym more)
          (subst (AreKept kept_new) (sym (unpaired-push items waiting item)) (subst (λ l. AreKept kept_new (unpaired whole items waiting ++ cond (is_some (earliest whole (whole item) l)) [] (item ∷ []))) has.left_is (sifts.kept (unpaired whole items waiting) has.are_kept)));
    }

-- there is no further paragraph
pub all_sifted : (kind : Kind) (text : List ℕ) (others : List Item) (old new : Pool) (kept : List Kept) (given : List Seen) → HasSifted kind others old new kept given → ShownAll (doc_of kind) text given → SiftsFile kind text others old new kept
all_sifted kind text others old new kept given has shown =
    let same : length has.values ≡ length given = pairwise-length (AreValuesOf (doc_of kind)) given has.values has.are in
    let items : items_given kind 0 given has.values ≡ items_of kind text has.values = given-items kind text 0 given has.values same shown.next in
    record {
      meaning = has.values;
      accepted = accepted-given (doc_of kind) text given has.values shown has.are;
      is_pool = has.is_pool;
      left = has.left_is ∙ ap (without whole (items_in others old)) items;
      are_kept = subst (AreKept kept) (unpaired-left whole (items_given kind 0 given has.values) (items_in others old) ∙ ap (λ l. without whole l (items_in others old)) items) has.are_kept;
    }
