-- A group and a relation that are spelled are read. So a text spells at most one relation.
use Rattle.std.proofs.Common.{◌≡◌, ◌≢◌, ℕ, Bool, true, false, List, [], ◌∷◌, ◌++◌, length, Option, Some, None, Ok, Err, Result, refl, sym, ap, ◌∙◌, subst, append_assoc, append-nil, cond, ◌||◌, ◌==◌}
use Rattle.deb_relation.specs.Grammar.{IsWhite, SpellBetween, SpellsAlternative, SpellsGroup, SpellsPiece, groups_of, SpellsRelation, set_with}
use Rattle.deb_relation.specs.Meaning.{Alternative, Group, Relation}
use Rattle.deb_relation.specs.declared.fault.Reason.{Reason}
use Rattle.deb_relation.specs.declared.fault.Reason.TheVariants.{Trailing}
use Rattle.deb_relation.specs.Reading.{gather, begins, behind_white, is_at_end, next_alternative, append, read_group, next_piece, put_piece, read_relation, placed, relation_in}
use Rattle.deb_relation.specs.Sets.{insert_by}
use Rattle.deb_relation.specs.Texts.{group_text}
use Rattle.deb_relation.proofs.Bytes.{other, package_bytes, package_some, at_end-some, signed_stops}
use Rattle.deb_relation.proofs.Gathering.{gather-none, gather-some}
use Rattle.deb_relation.proofs.ReadRelation.{step-next_alternative, step-next_piece}
use Rattle.deb_relation.proofs.Runs.{Passes, white-past}
use Rattle.deb_base.specs.PackageNames.{is_package_byte}
use Rattle.deb_relation.proofs.SpelledRelation.{Starts, is_end, alternative_read}
use Rattle.deb_version.specs.PartsLemmas.{cons_not_nil}

-- what may be after a piece
abbrev pub is_piece_end : ℕ → Bool
is_piece_end b = b == 44

piece_end : (rest : List ℕ) → Starts is_piece_end rest → Starts is_end rest
piece_end [] s = tt
piece_end (b ∷ bs) s = ap (λ v. v || (b == 124)) s

no_alternative : (rest : List ℕ) → Starts is_piece_end rest → next_alternative rest ≡ Ok None
unfolding next_alternative
no_alternative [] s = refl
no_alternative (b ∷ bs) s = rw (other is_piece_end 124 refl b s) refl

alternative_takes : (text : List ℕ) (a : Alternative) (rest : List ℕ) → SpellsAlternative text a → Starts is_end rest → next_alternative (124 ∷ (text ++ rest)) ≡ Ok (Some (a, rest))
unfolding next_alternative
alternative_takes text a rest spells end = rw (alternative_read text a rest spells end) refl

more_read : (group : Group) (text : List ℕ) (all : Group) (rest : List ℕ) → SpellsGroup text group → Starts is_piece_end rest → gather next_alternative append all (124 ∷ (text ++ rest)) ≡ Ok (all ++ group, rest)
more_read [] text all rest spells end = absurd spells
more_read (a ∷ []) text all rest spells end =
    gather-some next_alternative append step-next_alternative all (124 ∷ (text ++ rest)) a rest (alternative_takes text a rest spells (piece_end rest end))
    ∙ gather-none next_alternative append step-next_alternative (append a all) rest (no_alternative rest end)
more_read (a ∷ next ∷ group) text all rest spells end =
    let behind = 124 ∷ (spells.1 ++ rest) in
    let spelt : text ++ rest ≡ spells.0 ++ behind = ap (λ t. t ++ rest) spells.2 ∙ append_assoc spells.0 (124 ∷ spells.1) rest in
    ap (λ t. gather next_alternative append all (124 ∷ t)) spelt
    ∙ gather-some next_alternative append step-next_alternative all (124 ∷ (spells.0 ++ behind)) a behind (alternative_takes spells.0 a behind spells.3 refl)
    ∙ more_read (next ∷ group) spells.1 (append a all) rest spells.4 end
    ∙ ap (λ g. Ok (g, rest)) (append_assoc all (a ∷ []) (next ∷ group))

pub group_read : (group : Group) (text rest : List ℕ) → SpellsGroup text group → Starts is_piece_end rest → read_group (behind_white (text ++ rest)) ≡ Ok (group, rest)
unfolding read_group
group_read [] text rest spells end = absurd spells
group_read (a ∷ []) text rest spells end =
    rw (alternative_read text a rest spells (piece_end rest end)) (gather-none next_alternative append step-next_alternative (a ∷ []) rest (no_alternative rest end))
group_read (a ∷ next ∷ group) text rest spells end =
    let behind = 124 ∷ (spells.1 ++ rest) in
    let spelt : text ++ rest ≡ spells.0 ++ behind = ap (λ t. t ++ rest) spells.2 ∙ append_assoc spells.0 (124 ∷ spells.1) rest in
    rw (spelt, alternative_read spells.0 a behind spells.3 refl) (more_read (next ∷ group) spells.1 (a ∷ []) rest spells.4 end)

-- what follows white space in a group's spelling: a name, which begins no further piece
record IsNamed (text : List ℕ) : Type 0 where
  some : is_at_end (behind_white text) ≡ false
  no_comma : begins 44 (behind_white text) ≡ false

alternative_named : (text : List ℕ) (a : Alternative) (rest : List ℕ) → SpellsAlternative text a → IsNamed (text ++ rest)
alternative_named text a rest is =
    let more = (is.qualifier ++ (is.bound ++ (is.architectures ++ (is.formula ++ is.behind)))) ++ rest in
    let spelt : text ++ rest ≡ is.before ++ (a.name ++ more) = ap (λ t. t ++ rest) is.spelt ∙ simp append_assoc refl in
    let here : behind_white (text ++ rest) ≡ a.name ++ more = ap behind_white spelt ∙ white-past is.before (a.name ++ more) is.before_white (signed_stops false a.name more (package_some a.name is.is_name) (package_bytes a.name is.is_name)) in
    record {
      some = ap is_at_end here ∙ (name_first a.name more (package_some a.name is.is_name) (package_bytes a.name is.is_name)).0;
      no_comma = ap (begins 44) here ∙ (name_first a.name more (package_some a.name is.is_name) (package_bytes a.name is.is_name)).1;
    }
  where
    name_first : (name more : List ℕ) → name ≢ [] → Passes is_package_byte name → (is_at_end (name ++ more) ≡ false) × (begins 44 (name ++ more) ≡ false)
    name_first [] more some all = absurd (some refl)
    name_first (b ∷ bs) more some all = (at_end-some (b ∷ (bs ++ more)) (λ e. cons_not_nil b (bs ++ more) e), other is_package_byte 44 refl b all.0)

group_named : (group : Group) (text rest : List ℕ) → SpellsGroup text group → IsNamed (text ++ rest)
group_named [] text rest spells = absurd spells
group_named (a ∷ []) text rest spells = alternative_named text a rest spells
group_named (a ∷ next ∷ group) text rest spells =
    let spelt : text ++ rest ≡ spells.0 ++ 124 ∷ (spells.1 ++ rest) = ap (λ t. t ++ rest) spells.2 ∙ append_assoc spells.0 (124 ∷ spells.1) rest in
    subst IsNamed (sym spelt) (alternative_named spells.0 a (124 ∷ (spells.1 ++ rest)) spells.3)

-- a piece and the comma after it
piece_takes : (piece : Option Group) (text behind : List ℕ) → SpellsPiece text piece → next_piece (text ++ 44 ∷ behind) ≡ Ok (Some (piece, behind))
unfolding next_piece
piece_takes None text behind spells =
    rw (white-past text (44 ∷ behind) spells refl, at_end-some (44 ∷ behind) (λ e. cons_not_nil 44 behind e)) refl
piece_takes (Some group) text behind spells =
    let named = group_named group text (44 ∷ behind) spells in
    rw (named.some, named.no_comma, group_read group text (44 ∷ behind) spells refl) (ap (λ v. cond (v || true) (Ok (Some (Some group, behind))) (Err (Trailing, length (44 ∷ behind)))) (at_end-some (44 ∷ behind) (λ e. cons_not_nil 44 behind e)))

-- the last piece
last_group : (group : Group) (text : List ℕ) → SpellsGroup text group → next_piece text ≡ Ok (Some (Some group, []))
unfolding next_piece
last_group group text spells =
    let whole : text ++ [] ≡ text = append-nil text in
    let named = subst IsNamed whole (group_named group text [] spells) in
    let read : read_group (behind_white text) ≡ Ok (group, []) = ap (λ t. read_group (behind_white t)) (sym whole) ∙ group_read group text [] spells tt in
    rw (named.some, named.no_comma, read) refl

no_piece : (white : List ℕ) → IsWhite white → next_piece white ≡ Ok None
unfolding next_piece
no_piece white w =
    let here : behind_white white ≡ [] = ap behind_white (sym (append-nil white)) ∙ white-past white [] w tt in
    rw here refl

placed_none : (size : ℕ) (all : Relation) (text : List ℕ) → next_piece text ≡ Ok None → placed size (gather next_piece put_piece all text) ≡ Ok all
placed_none size all text e = ap (placed size) (gather-none next_piece put_piece step-next_piece all text e)

pieces_read : (pieces : List (Option Group)) (size : ℕ) (text : List ℕ) (all : Relation) → SpellBetween 44 SpellsPiece text pieces → placed size (gather next_piece put_piece all text) ≡ Ok (set_with group_text (groups_of pieces) all)
pieces_read [] size text all spells = absurd spells
pieces_read (None ∷ []) size text all spells = placed_none size all text (no_piece text spells)
pieces_read (Some group ∷ []) size text all spells =
    ap (placed size) (gather-some next_piece put_piece step-next_piece all text (Some group) [] (last_group group text spells))
    ∙ placed_none size (insert_by group_text group all) [] (no_piece [] tt)
pieces_read (None ∷ next ∷ pieces) size text all spells =
    ap (λ t. placed size (gather next_piece put_piece all t)) spells.2
    ∙ ap (placed size) (gather-some next_piece put_piece step-next_piece all (spells.0 ++ 44 ∷ spells.1) None spells.1 (piece_takes None spells.0 spells.1 spells.3))
    ∙ pieces_read (next ∷ pieces) size spells.1 all spells.4
pieces_read (Some group ∷ next ∷ pieces) size text all spells =
    ap (λ t. placed size (gather next_piece put_piece all t)) spells.2
    ∙ ap (placed size) (gather-some next_piece put_piece step-next_piece all (spells.0 ++ 44 ∷ spells.1) (Some group) spells.1 (piece_takes (Some group) spells.0 spells.1 spells.3))
    ∙ pieces_read (next ∷ pieces) size spells.1 (insert_by group_text group all) spells.4

-- what is spelled is read
pub relation_read : (text : List ℕ) (m : Relation) → SpellsRelation text m → relation_in text ≡ Ok m
unfolding relation_in read_relation
relation_read text m spells = pieces_read spells.pieces (length text) text [] spells.spell_pieces ∙ ap Ok (sym spells.set)

pub one_relation : (text : List ℕ) (m n : Relation) → SpellsRelation text m → SpellsRelation text n → m ≡ n
one_relation text m n a b = same m n (relation_in text) (relation_read text m a) (relation_read text n b)
  where
    same : (m n : Relation) (r : Result Relation (Reason × ℕ)) → r ≡ Ok m → r ≡ Ok n → m ≡ n
    same m n r p q = cc
