-- How many bytes a reading leaves, whether it goes on or stops: never more than there were.
use Rattle.std.proofs.Common.{◌≡◌, ℕ, zero, suc, ◌-◌, ◌+◌, ◌≤◌, ◌||◌, not, Bool, true, false, cond, List, [], ◌∷◌, length, drop, Option, Some, None, Result, Ok, Err, refl, ap, subst, arith, length-drop}
use Rattle.std.specs.List.{prefix_len}
use Rattle.deb_base.specs.PackageNames.{is_package_name, is_arch_name, is_profile_name}
use Rattle.deb_version.specs.declared.fault.BadVersion.{BadVersion}
use Rattle.deb_version.specs.Parts.{Meaning as Version}
use Rattle.deb_relation.specs.declared.fault.Reason.{Reason}
use Rattle.deb_relation.specs.declared.fault.Reason.TheVariants.{OperatorBad, Unclosed, ListEmpty}
use Rattle.deb_relation.specs.Meaning.{Relation}
use Rattle.deb_relation.specs.Reading.{Stopped, Reading, Next, and_then, and_next, gathered, gather, run_of, behind_run, behind_white, begins, is_at_end, is_before, is_in_name, is_in_operator, is_white, read_name, read_qualifier, operator_of, or_stop, or_fault, read_operator, read_version, read_close, read_bound_behind, read_bound, some_read, ends_list, name_of_item, next_architecture, next_restriction, read_list_end, with_behind, end_list, is_empty_list, read_names, read_architectures, read_restrictions, some_next, next_restrictions, read_formula, read_alternative, next_alternative, append, read_group, piece_behind, next_piece, put_piece, read_relation, placed, relation_in}
use Rattle.deb_relation.specs.Sets.{insert_by, itself, same_bool}
use Rattle.deb_relation.specs.Texts.{item_text, restrictions_text}

abbrev left_of : {A : Type 0} → (A → ℕ) → Result A Stopped → ℕ
left_of size (Ok a) = size a
left_of size (Err stopped) = stopped.1

-- after what was read, and after a further one if there is one
abbrev behind : {A : Type 0} → A × List ℕ → ℕ
behind p = length p.1

abbrev behind_next : {A : Type 0} → Option (A × List ℕ) → ℕ
behind_next None = 0
behind_next (Some p) = length p.1

left-if : {A : Type 0} (size : A → ℕ) (b : Bool) (x y : Result A Stopped) (n : ℕ) → left_of size x ≤ n → left_of size y ≤ n → left_of size (cond b x y) ≤ n
left-if size true x y n p q = p
left-if size false x y n p q = q

left-and_then : {A B : Type 0} (size : B → ℕ) (r : Reading A) (f : A → List ℕ → Result B Stopped) (n : ℕ) → left_of behind r ≤ n → ((a : A) (rest : List ℕ) → length rest ≤ n → left_of size (f a rest) ≤ n) → left_of size (and_then r f) ≤ n
left-and_then size (Ok p) f n le g = g p.0 p.1 le
left-and_then size (Err stopped) f n le g = le

-- readings that each leave no more bytes than there were
abbrev Leaves : {A : Type 0} → (A → ℕ) → (List ℕ → Result A Stopped) → Type 0
Leaves size read = (n : ℕ) (text : List ℕ) → length text ≤ n → left_of size (read text) ≤ n

left-gather : {A S : Type 0} (step : List ℕ → Next A) (put : A → S → S) → Leaves behind_next step → (all : S) → Leaves behind (gather step put all)
unfolding gather
left-gather {A = A} {S = S} step put leaves all n text le = times (length text) all text le
  where
    times : (k : ℕ) (all : S) (text : List ℕ) → length text ≤ n → left_of behind (gathered step put k all text) ≤ n
    times zero all text le = le
    times (suc k) all text le = from (times k) (step text) (leaves n text le)
      where
        from : ((all' : S) (rest : List ℕ) → length rest ≤ n → left_of behind (gathered step put k all' rest) ≤ n) → (next : Next A) → left_of behind_next next ≤ n → left_of behind (and_next next (Ok (all, text)) (λ a rest. gathered step put k (put a all) rest)) ≤ n
        from more (Err stopped) p = p
        from more (Ok None) p = le
        from more (Ok (Some q)) p = more (put q.0 all) q.1 p

dropped : (k n : ℕ) (text : List ℕ) → length text ≤ n → length (drop k text) ≤ n
dropped k n text le = omega (arith, length-drop k text)

white : (n : ℕ) (text : List ℕ) → length text ≤ n → length (behind_white text) ≤ n
white n text le = dropped (prefix_len is_white text) n text le

name : Leaves behind read_name
unfolding read_name
name n text le =
    left-if behind (is_at_end (run_of is_in_name text)) _ _ n le
    (left-if behind (is_package_name (run_of is_in_name text)) _ _ n (dropped (prefix_len is_in_name text) n text le) le)

qualifier : Leaves behind read_qualifier
unfolding read_qualifier
qualifier n text le =
    let rest = dropped 1 n text le in
    left-if behind (not (begins 58 text)) _ _ n le
    (left-if behind (is_arch_name (run_of is_in_name (drop 1 text))) _ _ n (dropped (prefix_len is_in_name (drop 1 text)) n (drop 1 text) rest) rest)

operator : Leaves behind read_operator
unfolding read_operator
operator n text le = from (operator_of (run_of is_in_operator text))
  where
    from : {A : Type 0} (o : Option A) → left_of behind (or_stop o (behind_white (behind_run is_in_operator text)) (OperatorBad, length text)) ≤ n
    from None = le
    from (Some a) = white n (behind_run is_in_operator text) (dropped (prefix_len is_in_operator text) n text le)

version : Leaves behind read_version
unfolding read_version
version n text le = from _ _
  where
    from : (o : Option BadVersion) (v : Version) → left_of behind (or_fault o v (behind_white (behind_run (is_before 41) text)) (length text)) ≤ n
    from None v = white n (behind_run (is_before 41) text) (dropped (prefix_len (is_before 41) text) n text le)
    from (Some fault) v = le

close : {A : Type 0} (a : A) → Leaves behind (read_close a)
close a n text le = left-if behind (begins 41 text) _ _ n (white n (drop 1 text) (dropped 1 n text le)) le

bound_behind : Leaves behind read_bound_behind
unfolding read_bound_behind
bound_behind n text le =
    left-and_then behind (read_operator text) _ n (operator n text le) (λ o rest le1.
    left-and_then behind (read_version rest) _ n (version n rest le1) (λ v rest' le2. close (o, v) n rest' le2))

bound : Leaves behind read_bound
unfolding read_bound
bound n text le =
    let inner = behind_white (drop 1 text) in
    left-if behind (begins 40 text) _ _ n
    (left-and_then behind (read_bound_behind inner) some_read n (bound_behind n inner (white n (drop 1 text) (dropped 1 n text le))) (λ b rest le1. le1)) le

architecture : (negated : Bool) → Leaves behind_next (next_architecture negated)
unfolding next_architecture
architecture negated n text le =
    let here = behind_white text in
    let item = run_of (is_before 93) here in
    let inner = white n text le in
    left-if behind_next (ends_list 93 here) _ _ n (omega arith)
    (left-if behind_next (not (is_arch_name (name_of_item item))) _ _ n inner
    (left-if behind_next (not (same_bool (begins 33 item) negated)) _ _ n inner (dropped (prefix_len (is_before 93) here) n here inner)))

restriction : Leaves behind_next next_restriction
unfolding next_restriction
restriction n text le =
    let here = behind_white text in
    let item = run_of (is_before 62) here in
    let inner = white n text le in
    left-if behind_next (ends_list 62 here) _ _ n (omega arith)
    (left-if behind_next (not (is_profile_name (name_of_item item))) _ _ n inner (dropped (prefix_len (is_before 62) here) n here inner))

list_end : {A : Type 0} (items : List A) → Leaves behind (end_list items)
unfolding read_list_end
list_end items n text le = from (is_at_end (behind_white text)) (is_empty_list items)
  where
    from : (at_end empty : Bool) → left_of behind (with_behind items (cond at_end (Err (Unclosed, 0)) (cond empty (Err (ListEmpty, length (behind_white text))) (Ok (behind_white (drop 1 (behind_white text))))))) ≤ n
    from true empty = omega arith
    from false true = white n text le
    from false false = white n (drop 1 (behind_white text)) (dropped 1 n (behind_white text) (white n text le))

architectures : Leaves behind read_architectures
unfolding read_architectures read_names
architectures n text le =
    let negated = begins 33 (behind_white (drop 1 text)) in
    let names = gather (next_architecture negated) (insert_by itself) [] (drop 1 text) in
    left-if behind (begins 91 text) _ _ n
    (left-and_then behind (and_then names end_list) _ n
    (left-and_then behind names end_list n (left-gather (next_architecture negated) (insert_by itself) (architecture negated) [] n (drop 1 text) (dropped 1 n text le)) (λ items rest le1. list_end items n rest le1))
    (λ items rest le1. le1)) le

restrictions : Leaves behind_next next_restrictions
unfolding next_restrictions read_restrictions
restrictions n text le =
    let items = gather next_restriction (insert_by item_text) [] (drop 1 text) in
    left-if behind_next (begins 60 text) _ _ n
    (left-and_then behind_next (and_then items end_list) some_next n
    (left-and_then behind items end_list n (left-gather next_restriction (insert_by item_text) restriction [] n (drop 1 text) (dropped 1 n text le)) (λ items rest le1. list_end items n rest le1))
    (λ items rest le1. le1)) (omega arith)

formula : Leaves behind read_formula
unfolding read_formula
formula n text le = left-gather next_restrictions (insert_by restrictions_text) restrictions [] n text le

alternative : Leaves behind read_alternative
unfolding read_alternative
alternative n text le =
    left-and_then behind (read_name text) _ n (name n text le) (λ a t1 le1.
    left-and_then behind (read_qualifier t1) _ n (qualifier n t1 le1) (λ q t2 le2.
    left-and_then behind (read_bound (behind_white t2)) _ n (bound n (behind_white t2) (white n t2 le2)) (λ b t3 le3.
    left-and_then behind (read_architectures t3) _ n (architectures n t3 le3) (λ l t4 le4.
    left-and_then behind (read_formula t4) _ n (formula n t4 le4) (λ f t5 le5. le5)))))

alternatives : Leaves behind_next next_alternative
unfolding next_alternative
alternatives n text le =
    let inner = behind_white (drop 1 text) in
    left-if behind_next (begins 124 text) _ _ n
    (left-and_then behind_next (read_alternative inner) some_next n (alternative n inner (white n (drop 1 text) (dropped 1 n text le))) (λ a rest le1. le1)) (omega arith)

group : Leaves behind read_group
unfolding read_group
group n text le =
    left-and_then behind (read_alternative text) _ n (alternative n text le) (λ a rest le1. left-gather next_alternative append alternatives (a ∷ []) n rest le1)

piece : Leaves behind_next next_piece
unfolding next_piece
piece n text le =
    let here = behind_white text in
    let inner = white n text le in
    left-if behind_next (is_at_end here) _ _ n (omega arith)
    (left-if behind_next (begins 44 here) _ _ n (dropped 1 n here inner)
    (left-and_then behind_next (read_group here) piece_behind n (group n here inner) (λ g rest le1. left-if behind_next (is_at_end rest || begins 44 rest) _ _ n (dropped 1 n rest le1) le1)))

relation : Leaves behind read_relation
unfolding read_relation
relation n text le = left-gather next_piece put_piece piece [] n text le

-- the offset of a fault, and the bytes from there on
pub faults_stand : (text : List ℕ) (reason : Reason) (at : ℕ) → relation_in text ≡ Err (reason, at) → (left : ℕ) × (read_relation text ≡ Err (reason, left)) × (at + left ≡ length text)
unfolding relation_in
faults_stand text reason at is = from (read_relation text) refl (relation (length text) text (omega arith)) is
  where
    second : (p q : Reason × ℕ) → let r : Result Relation (Reason × ℕ) = Err p in r ≡ Err q → p ≡ q
    second p q e = cc

    from : (r : Reading Relation) → read_relation text ≡ r → left_of behind r ≤ length text → placed (length text) r ≡ Err (reason, at) → (left : ℕ) × (read_relation text ≡ Err (reason, left)) × (at + left ≡ length text)
    from (Ok p) was le e = absurd cc
    from (Err stopped) was le e =
        let same = second (stopped.0, length text - stopped.1) (reason, at) e in
        let place = ap (λ fault. fault.1) same in
        let told = ap (λ fault. fault.0) same in
        (stopped.1, subst (λ r. read_relation text ≡ Err (r, stopped.1)) told was, omega (arith, place))
