-- An architecture list, a restriction list and a formula that are spelled are read, whatever is after them.
use Rattle.std.proofs.Common.{◌≡◌, ◌≢◌, ℕ, Bool, true, false, not, List, [], ◌∷◌, ◌++◌, length, map, IsTrue, Option, Some, None, Ok, refl, sym, ap, ◌∙◌, append_assoc, ◌||◌, ◌==◌, arith}
use Rattle.std.proofs.lemmas.Bool.{ne_eqb}
use Rattle.std.proofs.lemmas.Bool.Decides.{Decides-eqb}
use Rattle.std.specs.List.{AllByRecursion}
use Rattle.std.specs.declared.cmp.Ordering.{Ordering}
use Rattle.std.specs.declared.cmp.Ordering.TheVariants.{Less, Equal, Greater}
use Rattle.deb_base.specs.PackageNames.{is_arch_name, is_profile_name, is_package_byte}
use Rattle.deb_relation.specs.Grammar.{IsWhite, IsApart, SpellItems, SpellInTurn, set_with, SpellsArchitectures, SpellsRestrictions}
use Rattle.deb_relation.specs.Meaning.{Item, Restrictions}
use Rattle.deb_relation.specs.Reading.{Next, and_then, gather, begins, behind_run, behind_white, is_before, is_white, run_of, ends_list, name_of_item, next_architecture, next_restriction, read_list_end, end_list, is_empty_list, read_names, read_architectures, read_restrictions, next_restrictions, read_formula}
use Rattle.deb_relation.specs.Sets.{byte_cmp, by_order, insert_by, itself, same_bool}
use Rattle.deb_relation.specs.Texts.{signed_text, item_text, restrictions_text}
use Rattle.deb_relation.proofs.Bytes.{signed-some, arch_bytes, profile_bytes, arch_some, profile_some, at_end-some, signed_run, signed_stops, begins-signed, white_stops_close}
use Rattle.deb_relation.proofs.Gathering.{IsStep, gather-none, gather-some}
use Rattle.deb_relation.proofs.ReadLists.{step-next_architecture, step-next_restriction, step-next_restrictions}
use Rattle.deb_relation.proofs.Runs.{Passes, Stops, run_of-whole, behind_run-whole, white-past}
use Rattle.deb_version.specs.PartsLemmas.{cons_not_nil}

insert-some : {A : Type 0} (text : A → List ℕ) (x : A) (ys : List A) → insert_by text x ys ≢ []
insert-some text x [] e = cons_not_nil x [] e
insert-some text x (y ∷ ys) e = by_cases (byte_cmp (text x) (text y)) e
  where
    by_cases : (o : Ordering) → by_order o (x ∷ y ∷ ys) (y ∷ ys) (y ∷ insert_by text x ys) ≡ [] → ⊥
    by_cases Less e = cc
    by_cases Equal e = cc
    by_cases Greater e = cc

-- a set with a member isn't empty
set_with-some : {A : Type 0} (text : A → List ℕ) (xs set : List A) → set ≢ [] → set_with text xs set ≢ []
set_with-some text [] set some = some
set_with-some text (x ∷ xs) set some = set_with-some text xs (insert_by text x set) (insert-some text x set)

pub set_of-some : {A : Type 0} (text : A → List ℕ) (xs set : List A) → xs ≢ [] → set_with text xs set ≢ []
set_of-some text [] set some = absurd (some refl)
set_of-some text (x ∷ xs) set some = set_with-some text xs (insert_by text x set) (insert-some text x set)

pub empty_list-some : {A : Type 0} (xs : List A) → xs ≢ [] → is_empty_list xs ≡ false
empty_list-some [] some = absurd (some refl)
empty_list-some (x ∷ xs) some = ne_eqb (length (x ∷ xs)) 0 (λ e. omega arith)

-- what follows an item ends its run: white space, or the closing byte
apart_stops : (close : ℕ) (behind more : List ℕ) → is_white close ≡ false → IsApart behind → Stops (is_before close) (behind ++ close ∷ more)
apart_stops close [] more c apart = white_stops_close close [] more c tt
apart_stops close (b ∷ bs) more c apart = ap (λ v. not (v || (b == close))) apart

end_list-read : {A : Type 0} (items : List A) (close : ℕ) (white more : List ℕ) → is_white close ≡ false → IsWhite white → items ≢ [] → end_list items (white ++ close ∷ more) ≡ Ok (items, behind_white more)
unfolding read_list_end
end_list-read items close white more c w some =
    rw (white-past white (close ∷ more) w c, at_end-some (close ∷ more) (λ e. cons_not_nil close more e), empty_list-some items some) refl

-- items that are spelled are gathered, up to the end of their list
module _ {A : Type 0} (step : List ℕ → Next A) (is : IsStep step) (text key : A → List ℕ) (close : ℕ) (Good : A → Type 0) (closes : is_white close ≡ false)
    (ends : (white more : List ℕ) → IsWhite white → step (white ++ close ∷ more) ≡ Ok None)
    (takes : (white : List ℕ) (a : A) (behind : List ℕ) → IsWhite white → Good a → Stops (is_before close) behind → step (white ++ (text a ++ behind)) ≡ Ok (Some (a, behind)))
    (more : List ℕ) where
  pub items_read : (items : List A) (spelling : List ℕ) (all : List A) → SpellItems spelling (map text items) → AllByRecursion Good items → set_with key items all ≢ [] → and_then (gather step (insert_by key) all (spelling ++ close ∷ more)) end_list ≡ Ok (set_with key items all, behind_white more)
  items_read [] spelling all spells good some =
      ap (λ r. and_then r end_list) (gather-none step (insert_by key) is all (spelling ++ close ∷ more) (ends spelling more spells))
      ∙ end_list-read all close spelling more closes spells some
  items_read (a ∷ items) spelling all spells good some =
      let behind = spells.1 ++ close ∷ more in
      let spelt : spelling ++ close ∷ more ≡ spells.0 ++ (text a ++ behind) = ap (λ t. t ++ close ∷ more) spells.2 ∙ append_assoc spells.0 (text a ++ spells.1) (close ∷ more) ∙ ap (λ t. spells.0 ++ t) (append_assoc (text a) spells.1 (close ∷ more)) in
      let taken = takes spells.0 a behind spells.3 good.0 (apart_stops close spells.1 more closes spells.4) in
      ap (λ t. and_then (gather step (insert_by key) all t) end_list) spelt
      ∙ ap (λ r. and_then r end_list) (gather-some step (insert_by key) is all (spells.0 ++ (text a ++ behind)) a behind taken)
      ∙ items_read items spells.1 (insert_by key a all) spells.5 good.1 some

ends_list-close : (close : ℕ) (more : List ℕ) → ends_list close (close ∷ more) ≡ true
ends_list-close close more =
    let same : (close == close) ≡ true = (Decides-eqb close close).1 refl in
    rw (at_end-some (close ∷ more) (λ e. cons_not_nil close more e), same) refl

architecture_ends : (negated : Bool) (white more : List ℕ) → IsWhite white → next_architecture negated (white ++ 93 ∷ more) ≡ Ok None
unfolding next_architecture
architecture_ends negated white more w = rw (white-past white (93 ∷ more) w refl, ends_list-close 93 more) refl

restriction_ends : (white more : List ℕ) → IsWhite white → next_restriction (white ++ 62 ∷ more) ≡ Ok None
unfolding next_restriction
restriction_ends white more w = rw (white-past white (62 ∷ more) w refl, ends_list-close 62 more) refl

-- an item is before the end of its list
item_stands : (close : ℕ) (item behind : List ℕ) → item ≢ [] → Passes (is_before close) item → ends_list close (item ++ behind) ≡ false
item_stands close [] behind some run = absurd (some refl)
item_stands close (b ∷ bs) behind some run = rw (at_end-some (b ∷ (bs ++ behind)) (λ e. cons_not_nil b (bs ++ behind) e), no_close (is_white b) (b == close) run.0) refl
  where
    no_close : (w c : Bool) → not (w || c) ≡ true → c ≡ false
    no_close true c e = cc
    no_close false true e = cc
    no_close false false e = refl

name_of-signed : (negated : Bool) (name : List ℕ) → Passes is_package_byte name → name_of_item (signed_text negated name) ≡ name
name_of-signed true name all = refl
name_of-signed false name all = rw (begins-signed false name all) refl

same_bool-itself : (b : Bool) → same_bool b b ≡ true
same_bool-itself true = refl
same_bool-itself false = refl

-- what is read of an item: its run, its sign, its name, and that it is there
record IsItem (negated : Bool) (name : List ℕ) (close : ℕ) (white behind : List ℕ) : Type 0 where
  here : behind_white (white ++ (signed_text negated name ++ behind)) ≡ signed_text negated name ++ behind
  stands : ends_list close (signed_text negated name ++ behind) ≡ false
  run : run_of (is_before close) (signed_text negated name ++ behind) ≡ signed_text negated name
  after : behind_run (is_before close) (signed_text negated name ++ behind) ≡ behind
  sign : begins 33 (signed_text negated name) ≡ negated
  bare : name_of_item (signed_text negated name) ≡ name

is_item : (negated : Bool) (name : List ℕ) (close : ℕ) (white behind : List ℕ) → is_package_byte close ≡ false → is_before close 33 ≡ true → IsWhite white → name ≢ [] → Passes is_package_byte name → Stops (is_before close) behind → IsItem negated name close white behind
is_item negated name close white behind c mark w some all stops =
    let run = signed_run negated name close c mark all in
    record {
      here = white-past white (signed_text negated name ++ behind) w (signed_stops negated name behind some all);
      stands = item_stands close (signed_text negated name) behind (signed-some negated name some) run;
      run = run_of-whole (is_before close) (signed_text negated name) behind run stops;
      after = behind_run-whole (is_before close) (signed_text negated name) behind run stops;
      sign = begins-signed negated name all;
      bare = name_of-signed negated name all;
    }

architecture_takes : (negated : Bool) (white name behind : List ℕ) → IsWhite white → IsTrue (is_arch_name name) → Stops (is_before 93) behind → next_architecture negated (white ++ (signed_text negated name ++ behind)) ≡ Ok (Some (name, behind))
unfolding next_architecture
architecture_takes negated white name behind w good stops =
    let is = is_item negated name 93 white behind refl refl w (arch_some name good) (arch_bytes name good) stops in
    rw (is.here, is.stands, is.run, is.after, is.bare, is.sign, good, same_bool-itself negated) refl

restriction_takes : (white : List ℕ) (item : Item) (behind : List ℕ) → IsWhite white → IsTrue (is_profile_name item.1) → Stops (is_before 62) behind → next_restriction (white ++ (item_text item ++ behind)) ≡ Ok (Some (item, behind))
unfolding next_restriction
restriction_takes white item behind w good stops =
    let is = is_item item.0 item.1 62 white behind refl refl w (profile_some item.1 good) (profile_bytes item.1 good) stops in
    rw (is.here, is.stands, is.run, is.after, is.bare, is.sign, good) refl

names_read : (negated : Bool) (names : List (List ℕ)) (inner more : List ℕ) → SpellItems inner (map (signed_text negated) names) → names ≢ [] → AllByRecursion (λ name. IsTrue (is_arch_name name)) names → read_names negated (inner ++ 93 ∷ more) ≡ Ok (set_with itself names [], behind_white more)
unfolding read_names
names_read negated names inner more items some good =
    items_read (next_architecture negated) (step-next_architecture negated) (signed_text negated) itself 93 (λ name. IsTrue (is_arch_name name)) refl (architecture_ends negated) (architecture_takes negated) more names inner [] items good (set_of-some itself names [] some)

-- the sign of the first item is the list's
first_sign : (negated : Bool) (names : List (List ℕ)) (inner more : List ℕ) → SpellItems inner (map (signed_text negated) names) → names ≢ [] → AllByRecursion (λ name. IsTrue (is_arch_name name)) names → begins 33 (behind_white (inner ++ more)) ≡ negated
first_sign negated [] inner more items some good = absurd (some refl)
first_sign negated (name ∷ names) inner more items some good =
    let behind = items.1 ++ more in
    let spelt : inner ++ more ≡ items.0 ++ (signed_text negated name ++ behind) = ap (λ t. t ++ more) items.2 ∙ append_assoc items.0 (signed_text negated name ++ items.1) more ∙ ap (λ t. items.0 ++ t) (append_assoc (signed_text negated name) items.1 more) in
    let here : behind_white (inner ++ more) ≡ signed_text negated name ++ behind = ap behind_white spelt ∙ white-past items.0 (signed_text negated name ++ behind) items.3 (signed_stops negated name behind (arch_some name good.0) (arch_bytes name good.0)) in
    ap (begins 33) here ∙ sign negated name behind (arch_some name good.0) (arch_bytes name good.0)
  where
    sign : (negated : Bool) (name behind : List ℕ) → name ≢ [] → Passes is_package_byte name → begins 33 (signed_text negated name ++ behind) ≡ negated
    sign true name behind some all = refl
    sign false [] behind some all = absurd (some refl)
    sign false (b ∷ bs) behind some all = begins-signed false (b ∷ bs) all

bracketed : (before : List ℕ) (begin : ℕ) (inner : List ℕ) (close : ℕ) (more : List ℕ) → (before ++ (begin ∷ (inner ++ close ∷ []))) ++ more ≡ before ++ (begin ∷ (inner ++ close ∷ more))
bracketed before begin inner close more = simp append_assoc refl

-- an architecture list or nothing
pub architectures_read : (text : List ℕ) (list : Option (Bool × List (List ℕ))) (more : List ℕ) → SpellsArchitectures text list → begins 91 (behind_white more) ≡ false → read_architectures (behind_white (text ++ more)) ≡ Ok (list, behind_white more)
unfolding read_architectures
architectures_read text None more is other = rw (is, other) refl
architectures_read text (Some list) more is other =
    let here : behind_white (text ++ more) ≡ 91 ∷ (is.inner ++ 93 ∷ more) = ap (λ t. behind_white (t ++ more)) is.spelt ∙ ap behind_white (bracketed is.before 91 is.inner 93 more) ∙ white-past is.before (91 ∷ (is.inner ++ 93 ∷ more)) is.before_white refl in
    let sign = first_sign list.0 is.names is.inner (93 ∷ more) is.items is.some is.are_names in
    rw (here, sign, names_read list.0 is.names is.inner more is.items is.some is.are_names) (ap (λ names. Ok (Some (list.0, names), behind_white more)) (sym is.set))

restrictions_read : (members : List Item) (inner more : List ℕ) → SpellItems inner (map item_text members) → members ≢ [] → AllByRecursion (λ item. IsTrue (is_profile_name item.1)) members → read_restrictions (inner ++ 62 ∷ more) ≡ Ok (set_with item_text members [], behind_white more)
unfolding read_restrictions
restrictions_read members inner more items some good =
    items_read next_restriction step-next_restriction item_text item_text 62 (λ item. IsTrue (is_profile_name item.1)) refl restriction_ends restriction_takes more members inner [] items good (set_of-some item_text members [] some)

list_takes : (piece : List ℕ) (list : Restrictions) (more : List ℕ) → SpellsRestrictions piece list → next_restrictions (behind_white (piece ++ more)) ≡ Ok (Some (list, behind_white more))
unfolding next_restrictions
list_takes piece list more is =
    let here : behind_white (piece ++ more) ≡ 60 ∷ (is.inner ++ 62 ∷ more) = ap (λ t. behind_white (t ++ more)) is.spelt ∙ ap behind_white (bracketed is.before 60 is.inner 62 more) ∙ white-past is.before (60 ∷ (is.inner ++ 62 ∷ more)) is.before_white refl in
    rw (here, restrictions_read is.members is.inner more is.items is.some is.are_profiles) (ap (λ l. Ok (Some (l, behind_white more))) (sym is.set))

pub no_list : (text : List ℕ) → begins 60 text ≡ false → next_restrictions text ≡ Ok None
unfolding next_restrictions
no_list text other = rw other refl

lists_read : (lists : List Restrictions) (text : List ℕ) (all : List Restrictions) (more : List ℕ) → SpellInTurn SpellsRestrictions text lists → begins 60 (behind_white more) ≡ false → gather next_restrictions (insert_by restrictions_text) all (behind_white (text ++ more)) ≡ Ok (set_with restrictions_text lists all, behind_white more)
lists_read [] text all more spells other = rw spells (gather-none next_restrictions (insert_by restrictions_text) step-next_restrictions all (behind_white more) (no_list (behind_white more) other))
lists_read (list ∷ lists) text all more spells other =
    let behind = spells.1 ++ more in
    let spelt : text ++ more ≡ spells.0 ++ behind = ap (λ t. t ++ more) spells.2 ∙ append_assoc spells.0 spells.1 more in
    ap (λ t. gather next_restrictions (insert_by restrictions_text) all (behind_white t)) spelt
    ∙ gather-some next_restrictions (insert_by restrictions_text) step-next_restrictions all (behind_white (spells.0 ++ behind)) list (behind_white behind) (list_takes spells.0 list behind spells.3)
    ∙ lists_read lists spells.1 (insert_by restrictions_text list all) more spells.4 other

pub formula_read : (lists : List Restrictions) (text more : List ℕ) → SpellInTurn SpellsRestrictions text lists → begins 60 (behind_white more) ≡ false → read_formula (behind_white (text ++ more)) ≡ Ok (set_with restrictions_text lists [], behind_white more)
unfolding read_formula
formula_read lists text more spells other = lists_read lists text [] more spells other
