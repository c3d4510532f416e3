-- The sets of an alternative that is read ascend.
use Rattle.std.proofs.Common.{◌≡◌, ℕ, zero, suc, Bool, true, false, cond, ◌||◌, List, [], ◌∷◌, length, drop, Option, Some, None, IfSome, Result, Ok, Err, subst}
use Rattle.std.specs.List.{AllByRecursion}
use Rattle.std.specs.declared.cmp.Ordering.{Ordering}
use Rattle.std.specs.declared.cmp.Ordering.TheVariants.{Less, Equal, Greater}
use Rattle.deb_relation.specs.declared.fault.Reason.TheVariants.{Trailing}
use Rattle.deb_relation.specs.Laws.{Ascends, HasAscendingSets}
use Rattle.deb_relation.specs.Meaning.{Restrictions, Group, Relation}
use Rattle.deb_relation.specs.Reading.{Stopped, Reading, Next, and_then, and_next, gathered, gather, begins, behind_white, is_at_end, next_architecture, next_restriction, read_list_end, with_behind, end_list, is_empty_list, read_names, read_architectures, read_restrictions, some_next, next_restrictions, read_formula, read_name, read_qualifier, read_bound, read_alternative, next_alternative, append, read_group, piece_behind, next_piece, put_piece, read_relation, placed, relation_in}
use Rattle.deb_relation.specs.Sets.{byte_cmp, by_order, insert_by, itself}
use Rattle.deb_relation.specs.Texts.{item_text, restrictions_text, group_text}
use Rattle.deb_relation.proofs.Ascending.{ascends-insert_by}

-- what holds of what is read, and of what a step reads
abbrev reads_so : {A : Type 0} → (A → Type 0) → Reading A → Type 0
reads_so P (Ok p) = P p.0
reads_so P (Err stopped) = Unit {0}

abbrev steps_so : {A : Type 0} → (A → Type 0) → Next A → Type 0
steps_so P (Ok (Some p)) = P p.0
steps_so P (Ok None) = Unit {0}
steps_so P (Err stopped) = Unit {0}

record Reads {A : Type 0} (P : A → Type 0) (r : Reading A) : Type 0 where
  so : reads_so P r

record Steps {A : Type 0} (P : A → Type 0) (next : Next A) : Type 0 where
  so : steps_so P next

reads-and_then : {A B : Type 0} (P : A → Type 0) (Q : B → Type 0) (r : Reading A) (f : A → List ℕ → Reading B) → Reads P r → ((a : A) (rest : List ℕ) → P a → Reads Q (f a rest)) → Reads Q (and_then r f)
reads-and_then P Q (Ok p) f h g = g p.0 p.1 h.so
reads-and_then P Q (Err stopped) f h g = record { so = tt }

steps-and_then : {A B : Type 0} (P : A → Type 0) (Q : B → Type 0) (r : Reading A) (f : A → List ℕ → Next B) → Reads P r → ((a : A) (rest : List ℕ) → P a → Steps Q (f a rest)) → Steps Q (and_then r f)
steps-and_then P Q (Ok p) f h g = g p.0 p.1 h.so
steps-and_then P Q (Err stopped) f h g = record { so = tt }

abbrev Any : {A : Type 0} → A → Type 0
Any a = Unit {0}

reads-any : {A : Type 0} (r : Reading A) → Reads Any r
reads-any (Ok p) = record { so = tt }
reads-any (Err stopped) = record { so = tt }

steps-any : {A : Type 0} (next : Next A) → Steps Any next
steps-any (Ok (Some p)) = record { so = tt }
steps-any (Ok None) = record { so = tt }
steps-any (Err stopped) = record { so = tt }

module _ {A S : Type 0} (step : List ℕ → Next A) (put : A → S → S) (Q : A → Type 0) (P : S → Type 0) (each : (rest : List ℕ) → Steps Q (step rest)) (keeps : (a : A) (all : S) → Q a → P all → P (put a all)) where
  reads-gathered : (n : ℕ) (all : S) (rest : List ℕ) → P all → Reads P (gathered step put n all rest)
  reads-gathered zero all rest p = record { so = p }
  reads-gathered (suc n) all rest p = more (reads-gathered n) (step rest) (each rest)
    where
      more : ((all' : S) (rest' : List ℕ) → P all' → Reads P (gathered step put n all' rest')) → (next : Next A) → Steps Q next → Reads P (and_next next (Ok (all, rest)) (λ a behind. gathered step put n (put a all) behind))
      more same (Err stopped) q = record { so = tt }
      more same (Ok None) q = record { so = p }
      more same (Ok (Some x)) q = same (put x.0 all) x.1 (keeps x.0 all q.so p)

  reads-gather : (all : S) (rest : List ℕ) → P all → Reads P (gather step put all rest)
  unfolding gather
  reads-gather all rest p = reads-gathered (length rest) all rest p

pub all-insert_by : {A : Type 0} (P : A → Type 0) (text : A → List ℕ) (x : A) (ys : List A) → P x → AllByRecursion P ys → AllByRecursion P (insert_by text x ys)
all-insert_by P text x [] p all = (p, tt)
all-insert_by P text x (y ∷ ys) p all = by_cases (all-insert_by P text x ys p all.1) (byte_cmp (text x) (text y))
  where
    by_cases : AllByRecursion P (insert_by text x ys) → (o : Ordering) → AllByRecursion P (by_order o (x ∷ y ∷ ys) (y ∷ ys) (y ∷ insert_by text x ys))
    by_cases more Less = (p, all)
    by_cases more Equal = all
    by_cases more Greater = (all.0, more)

all-append : {A : Type 0} (P : A → Type 0) (x : A) (ys : List A) → P x → AllByRecursion P ys → AllByRecursion P (append x ys)
all-append P x [] p all = (p, tt)
all-append P x (y ∷ ys) p all = (all.0, all-append P x ys p all.1)

reads-end_list : {A : Type 0} (P : List A → Type 0) (items : List A) (rest : List ℕ) → P items → Reads P (end_list items rest)
reads-end_list P items rest p = from (read_list_end (is_empty_list items) rest)
  where
    from : (r : Result (List ℕ) Stopped) → Reads P (with_behind items r)
    from (Ok behind) = record { so = p }
    from (Err stopped) = record { so = tt }

reads-read_names : (negated : Bool) (text : List ℕ) → Reads (Ascends itself) (read_names negated text)
unfolding read_names
reads-read_names negated text =
    reads-and_then (Ascends itself) (Ascends itself) (gather (next_architecture negated) (insert_by itself) [] text) end_list
    (reads-gather (next_architecture negated) (insert_by itself) Any (Ascends itself) (λ rest. steps-any (next_architecture negated rest)) (λ name names _ a. ascends-insert_by itself name names a) [] text tt)
    (λ names rest a. reads-end_list (Ascends itself) names rest a)

reads-read_restrictions : (text : List ℕ) → Reads (Ascends item_text) (read_restrictions text)
unfolding read_restrictions
reads-read_restrictions text =
    reads-and_then (Ascends item_text) (Ascends item_text) (gather next_restriction (insert_by item_text) [] text) end_list
    (reads-gather next_restriction (insert_by item_text) Any (Ascends item_text) (λ rest. steps-any (next_restriction rest)) (λ item items _ a. ascends-insert_by item_text item items a) [] text tt)
    (λ items rest a. reads-end_list (Ascends item_text) items rest a)

steps-next_restrictions : (text : List ℕ) → Steps (Ascends item_text) (next_restrictions text)
unfolding next_restrictions
steps-next_restrictions text = by_test (begins 60 text)
  where
    by_test : (b : Bool) → Steps (Ascends item_text) (cond b (and_then (read_restrictions (drop 1 text)) some_next) (Ok None))
    by_test true = steps-and_then (Ascends item_text) (Ascends item_text) (read_restrictions (drop 1 text)) some_next (reads-read_restrictions (drop 1 text)) (λ items rest a. record { so = a })
    by_test false = record { so = tt }

record IsFormula (lists : List Restrictions) : Type 0 where
  lists_ascend : Ascends restrictions_text lists
  items_ascend : AllByRecursion (Ascends item_text) lists

reads-read_formula : (text : List ℕ) → Reads IsFormula (read_formula text)
unfolding read_formula
reads-read_formula text =
    reads-gather next_restrictions (insert_by restrictions_text) (Ascends item_text) IsFormula steps-next_restrictions
    (λ items lists a f. record { lists_ascend = ascends-insert_by restrictions_text items lists f.lists_ascend; items_ascend = all-insert_by (Ascends item_text) restrictions_text items lists a f.items_ascend })
    [] text (record { lists_ascend = tt; items_ascend = tt })

abbrev IsList : Option (Bool × List (List ℕ)) → Type 0
IsList list = IfSome list (λ l. Ascends itself l.1)

reads-read_architectures : (text : List ℕ) → Reads IsList (read_architectures text)
unfolding read_architectures
reads-read_architectures text = by_test (begins 91 text)
  where
    by_test : (b : Bool) → Reads IsList (cond b (and_then (read_names (begins 33 (behind_white (drop 1 text))) (drop 1 text)) (λ names rest. Ok (Some (begins 33 (behind_white (drop 1 text)), names), rest))) (Ok (None, text)))
    by_test true = reads-and_then (Ascends itself) IsList (read_names (begins 33 (behind_white (drop 1 text))) (drop 1 text)) (λ names rest. Ok (Some (begins 33 (behind_white (drop 1 text)), names), rest)) (reads-read_names (begins 33 (behind_white (drop 1 text))) (drop 1 text)) (λ names rest a. record { so = a })
    by_test false = record { so = tt }

reads-read_alternative : (text : List ℕ) → Reads HasAscendingSets (read_alternative text)
unfolding read_alternative
reads-read_alternative text =
    reads-and_then Any HasAscendingSets (read_name text) _ (reads-any (read_name text))
    (λ name text1 _. reads-and_then Any HasAscendingSets (read_qualifier text1) _ (reads-any (read_qualifier text1))
    (λ qualifier text2 _. reads-and_then Any HasAscendingSets (read_bound (behind_white text2)) _ (reads-any (read_bound (behind_white text2)))
    (λ bound text3 _. reads-and_then IsList HasAscendingSets (read_architectures text3) _ (reads-read_architectures text3)
    (λ architectures text4 l. reads-and_then IsFormula HasAscendingSets (read_formula text4) _ (reads-read_formula text4)
    (λ formula behind f. record { so = record { names = l; lists = f.lists_ascend; items = f.items_ascend } })))))

abbrev AreAscending : Group → Type 0
AreAscending group = AllByRecursion HasAscendingSets group

steps-next_alternative : (text : List ℕ) → Steps HasAscendingSets (next_alternative text)
unfolding next_alternative
steps-next_alternative text = by_test (begins 124 text)
  where
    by_test : (b : Bool) → Steps HasAscendingSets (cond b (and_then (read_alternative (behind_white (drop 1 text))) some_next) (Ok None))
    by_test true = steps-and_then HasAscendingSets HasAscendingSets (read_alternative (behind_white (drop 1 text))) some_next (reads-read_alternative (behind_white (drop 1 text))) (λ a rest h. record { so = h })
    by_test false = record { so = tt }

reads-read_group : (text : List ℕ) → Reads AreAscending (read_group text)
unfolding read_group
reads-read_group text =
    reads-and_then HasAscendingSets AreAscending (read_alternative text) (λ a rest. gather next_alternative append (a ∷ []) rest) (reads-read_alternative text)
    (λ a rest h. reads-gather next_alternative append HasAscendingSets AreAscending steps-next_alternative (λ x all p q. all-append HasAscendingSets x all p q) (a ∷ []) rest (h, tt))

abbrev IsPiece : Option Group → Type 0
IsPiece piece = IfSome piece AreAscending

steps-piece_behind : (group : Group) (rest : List ℕ) → AreAscending group → Steps IsPiece (piece_behind group rest)
steps-piece_behind group rest h = by_end (is_at_end rest || begins 44 rest)
  where
    by_end : (b : Bool) → Steps IsPiece (cond b (Ok (Some (Some group, drop 1 rest))) (Err (Trailing, length rest)))
    by_end true = record { so = h }
    by_end false = record { so = tt }

steps-next_piece : (text : List ℕ) → Steps IsPiece (next_piece text)
unfolding next_piece
steps-next_piece text = by_test (is_at_end (behind_white text)) (begins 44 (behind_white text))
  where
    by_test : (at_end comma : Bool) → Steps IsPiece (cond at_end (Ok None) (cond comma (Ok (Some (None, drop 1 (behind_white text)))) (and_then (read_group (behind_white text)) piece_behind)))
    by_test true comma = record { so = tt }
    by_test false true = record { so = tt }
    by_test false false = steps-and_then AreAscending IsPiece (read_group (behind_white text)) piece_behind (reads-read_group (behind_white text)) steps-piece_behind

keeps-put_piece : (piece : Option Group) (groups : Relation) → IsPiece piece → AllByRecursion AreAscending groups → AllByRecursion AreAscending (put_piece piece groups)
keeps-put_piece None groups p all = all
keeps-put_piece (Some group) groups p all = all-insert_by AreAscending group_text group groups p all

pub sets_ascend : (text : List ℕ) (m : Relation) → relation_in text ≡ Ok m → AllByRecursion AreAscending m
unfolding relation_in read_relation
sets_ascend text m is = from (gather next_piece put_piece [] text) (reads-gather next_piece put_piece IsPiece (AllByRecursion AreAscending) steps-next_piece keeps-put_piece [] text tt) is
  where
    from : (r : Reading Relation) → Reads (AllByRecursion AreAscending) r → placed (length text) r ≡ Ok m → AllByRecursion AreAscending m
    from (Ok p) h e = let same : p.0 ≡ m = cc in subst (AllByRecursion AreAscending) same h.so
    from (Err stopped) h e = absurd cc
