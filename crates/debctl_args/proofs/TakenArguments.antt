-- Words at which a parse by `clap` has no kind of error are taken: what `fault_of` and `takes` have in common, step by
-- step, for a command whose arguments have no default values.
use Rattle.std.proofs.Common.{◌≡◌, ◌⊎◌, ℕ, ◌==◌, ◌&&◌, ◌||◌, Bool, true, false, not, cond, List, [], ◌∷◌, Option, Some, None, length, is_some, inl, inr, refl, sym, arith, zero, suc}
use Rattle.std.specs.Prelude.{nat_lt, nat_le, find, drop, slice_get, encode_utf8}
use Rattle.std.specs.List.{list_all, list_any}
use Rattle.std.specs.Option.{option_map_or}
use Rattle.std.specs.Str.{bytes_eq, chars}
use Rattle.std.proofs.lemmas.Bool.{and_from}
use Rattle.std.proofs.lemmas.Bool.Decides.{nat_tests}
use Rattle.clap.proofs.WalkLemmas.{both}
use Rattle.clap.specs.Lexer.{long_of, short_of}
use Rattle.clap.specs.Facts.{explicit_source, unwrap_or_range, parser_of_value}
use Rattle.clap.specs.Kinds.{Kinds, or_else, values_kinds, value_kinds, range_kinds}
use Rattle.clap.specs.Faults.{action_fault, bundle_fault, bundle_step_fault, check_fault, count_fault, defaults_fault, entered_fault, fault_of, flag_word_fault, flags_fault, level_fault, long_fault, option_fault, other_fault, positional_fault, react_fault, repeat_fault, set_fault, settle_fault, short_fault, step_fault, stray_fault, turn_fault, use_fault, values_fault, walk_fault, word_fault}
use Rattle.clap.specs.Takes.{action_passes, bundle_passes, bundle_step_passes, count_passes, default_passes, entered_passes, flag_word_passes, flags_pass, is_given, is_valid, level_passes, long_passes, option_passes, other_passes, positional_passes, react_passes, set_passes, settle_passes, short_passes, step_passes, takes, turn_passes, use_passes, walk_passes, word_passes}
use Rattle.clap.specs.ValueTests.{accepts}
use Rattle.clap.specs.Walk.{Held, Names, Row, Rule, Step, Text, Waiting, Walk, action_of, arg_by_id, arg_by_index, arg_by_long, arg_by_short, answers_to, attached_value, finished, has_row, is_pending, most_values, nothing_held, reacted, settled, subcommand_met, takes_several, takes_values, next, trailing, subcommand, value, values_or_missing, walk, walk_from, walked, word_met}
use Rattle.clap.specs.Simple.{App, Shape, argument_words, built, entered, is_simple, label_of, names_of}
use Rattle.clap.specs.declared.builder.action.ArgAction.{ArgAction}
use Rattle.clap.specs.declared.builder.action.ArgAction.TheVariants as action
use Rattle.clap.specs.declared.builder.value_parser.ValueParser.{ValueParser}
use Rattle.clap.specs.declared.error.kind.ErrorKind.{ErrorKind}

-- ---- lists of kinds that are empty

some_kind : {P : Type 0} (k : ErrorKind) (ks : Kinds) → k ∷ ks ≡ [] → P
some_kind k ks e = let bad : ⊥ = cc in absurd bad

or_none : (a b : Kinds) → or_else a b ≡ [] → (a ≡ []) × (b ≡ [])
or_none [] b e = (refl, e)
or_none (k ∷ ks) b e = some_kind k ks e

-- what both tests of a choice tell
if_none : (b : Bool) (x y : Kinds) (p q : Bool) → (x ≡ [] → p ≡ true) → (y ≡ [] → q ≡ true) → cond b x y ≡ [] → cond b p q ≡ true
if_none true x y p q f g e = f e
if_none false x y p q f g e = g e

-- nothing is asked where the test holds
or_holds : (b : Bool) (x : Kinds) (q : Bool) → (x ≡ [] → q ≡ true) → cond b [] x ≡ [] → (b || q) ≡ true
or_holds true x q f e = refl
or_holds false x q f e = f e

-- a kind where the test fails, and a kind where it holds
holds_if_none : (b : Bool) (k : ErrorKind) (ks : Kinds) → cond b [] (k ∷ ks) ≡ [] → b ≡ true
holds_if_none true k ks e = refl
holds_if_none false k ks e = some_kind k ks e

fails_if_none : (b : Bool) (k : ErrorKind) (ks rest : Kinds) → cond b (k ∷ ks) rest ≡ [] → (b ≡ false) × (rest ≡ [])
fails_if_none true k ks rest e = some_kind k ks e
fails_if_none false k ks rest e = (refl, e)

-- ---- one use of an argument

values_none : (ignore_case : Bool) (parser : ValueParser) (vs : List Text) → values_kinds ignore_case parser vs ≡ [] → list_all (accepts ignore_case parser) vs ≡ true
values_none ignore_case parser [] e = refl
values_none ignore_case parser (v ∷ vs) e =
    let parts = or_none (value_kinds ignore_case parser v) (values_kinds ignore_case parser vs) e in
    and_from _ _ (holds_if_none (accepts ignore_case parser v) _ _ parts.0) (values_none ignore_case parser vs parts.1)

count_none : (a : Rule) (values : List Text) (rows : List Row) → count_fault a values rows ≡ [] → count_passes a values rows ≡ true
count_none a [] rows e = holds_if_none _ _ _ e
count_none a (v ∷ vs) rows e = values_none a.ignore_case (parser_of_value a.parser) (v ∷ vs) e

again_or_new : (has again : Bool) → (has && not again) ≡ false → (not has || again) ≡ true
again_or_new true true e = refl
again_or_new true false e = sym e
again_or_new false again e = refl

set_none : (again : Bool) (a : Rule) (values : List Text) (rows : List Row) → set_fault again a values rows ≡ [] → set_passes again a values rows ≡ true
set_none again a values rows e =
    let parts = or_none (repeat_fault again a.id rows) (values_fault a values) e in
    and_from _ _ (again_or_new (has_row a.id rows) again (fails_if_none (has_row a.id rows && not again) _ _ [] parts.0).0)
    (values_none a.ignore_case (parser_of_value a.parser) values parts.1)

action_none : (x : ArgAction) (again : Bool) (a : Rule) (values : List Text) (rows : List Row) → action_fault x again a values rows ≡ [] → action_passes x again a values rows ≡ true
action_none action.Set again a values rows e = set_none again a values rows e
action_none action.SetTrue again a values rows e = set_none again a values rows e
action_none action.SetFalse again a values rows e = set_none again a values rows e
action_none action.Append again a values rows e = values_none a.ignore_case (parser_of_value a.parser) values e
action_none action.Count again a values rows e = count_none a values rows e
action_none action.Help again a values rows e = some_kind _ _ e
action_none action.HelpShort again a values rows e = some_kind _ _ e
action_none action.HelpLong again a values rows e = some_kind _ _ e
action_none action.Version again a values rows e = some_kind _ _ e

-- the same of the tests alone: they are equal and that is the count, or the count is within
within : (same first fewer more : Bool) (k l m : ErrorKind) → cond same (cond first [] (k ∷ [])) (cond fewer (l ∷ []) (cond more (m ∷ []) [])) ≡ [] → ((same ≡ true) × (first ≡ true)) ⊎ ((fewer ≡ false) × (more ≡ false))
within true first fewer more k l m e = inl (refl, holds_if_none first k [] e)
within false first fewer more k l m e =
    let least = fails_if_none fewer l [] _ e in
    inr (least.0, (fails_if_none more m [] _ least.1).0)

range_none : (least most n : ℕ) → range_kinds least most n ≡ [] → (nat_le least n ≡ true) × (nat_le n most ≡ true)
range_none least most n e = by_tests (within (least == most) (least == n) (nat_lt n least) (nat_lt most n) _ _ _ (fails_if_none (nat_lt 0 least && n == 0) _ _ _ e).1)
  where
    by_tests : (((least == most) ≡ true) × ((least == n) ≡ true)) ⊎ ((nat_lt n least ≡ false) × (nat_lt most n ≡ false)) → (nat_le least n ≡ true) × (nat_le n most ≡ true)
    by_tests (inl (same, is)) = (grind (arith, nat_tests), grind (arith, nat_tests))
    by_tests (inr (fewer, more)) = (grind (arith, nat_tests), grind (arith, nat_tests))

use_none : (again : Bool) (a : Rule) (values : List Text) (rows : List Row) → use_fault again a values rows ≡ [] → use_passes again a values rows ≡ true
use_none again a values rows e =
    let parts = or_none (range_kinds (unwrap_or_range a.range).start_inclusive (most_values a) (length values)) (action_fault (action_of a) again a (values_or_missing a values) rows) e in
    let range = range_none (unwrap_or_range a.range).start_inclusive (most_values a) (length values) parts.0 in
    and_from _ _ range.0 (and_from _ _ range.1 (action_none (action_of a) again a (values_or_missing a values) rows parts.1))

-- ---- the walk

found_none : (again : Bool) (found : Option Rule) (values : List Text) (rows : List Row)
    → option_map_or (λ a. use_fault again a values rows) found [] ≡ [] → option_map_or (λ a. use_passes again a values rows) found true ≡ true
found_none again None values rows e = refl
found_none again (Some a) values rows e = use_none again a values rows e

pending_none : (c : List Rule) (again : Bool) (rows : List Row) (pending : Option (Text × List Text))
    → option_map_or (λ p. option_map_or (λ a. use_fault again a p.1 rows) (arg_by_id c p.0) []) pending [] ≡ []
    → option_map_or (λ p. option_map_or (λ a. use_passes again a p.1 rows) (arg_by_id c p.0) true) pending true ≡ true
pending_none c again rows None e = refl
pending_none c again rows (Some p) e = found_none again (arg_by_id c p.0) p.1 rows e

settle_none : (c : List Rule) (again : Bool) (h : Held) → settle_fault c again h ≡ [] → settle_passes c again h ≡ true
settle_none c again h e = pending_none c again h.rows h.pending e

react_none : (c : List Rule) (again : Bool) (a : Rule) (values : List Text) (h : Held) → react_fault c again a values h ≡ [] → react_passes c again a values h ≡ true
react_none c again a values h e =
    let parts = or_none (settle_fault c again h) (use_fault again a values (settled c h).rows) e in
    and_from _ _ (settle_none c again h parts.0) (use_none again a values (settled c h).rows parts.1)

option_none : (c : List Rule) (again : Bool) (a : Rule) (v : Option Text) (h : Held) → option_fault c again a v h ≡ [] → option_passes c again a v h ≡ true
option_none c again a (Some v) h e = react_none c again a (v ∷ []) h e
option_none c again a None h e = settle_none c again h e

flag_none : (c : List Rule) (again : Bool) (a : Rule) (has_value : Bool) (k : ErrorKind) (h : Held)
    → cond has_value (k ∷ []) (react_fault c again a [] h) ≡ [] → (not has_value && react_passes c again a [] h) ≡ true
flag_none c again a true k h e = some_kind k [] e
flag_none c again a false k h e = react_none c again a [] h e

long_none : (c : List Rule) (again : Bool) (found : Option Rule) (v : Option Text) (h : Held) → long_fault c again found v h ≡ [] → long_passes c again found v h ≡ true
long_none c again None v h e = some_kind _ _ e
long_none c again (Some a) v h e = if_none (takes_values a) _ _ _ _ (option_none c again a v h) (flag_none c again a (is_some v) _ h) e

short_none : (c : List Rule) (again : Bool) (found : Option Rule) (rest : Text) (h : Held) (fault : Held → Kinds) (passes : Held → Bool) → ((after : Held) → fault after ≡ [] → passes after ≡ true)
    → short_fault c again found rest h fault ≡ [] → short_passes c again found rest h passes ≡ true
short_none c again None rest h fault passes then e = some_kind _ _ e
short_none c again (Some a) rest h fault passes then e = if_none (takes_values a) _ _ _ _ (option_none c again a (attached_value rest) h)
    (λ none. let parts = or_none (react_fault c again a [] h) (fault (reacted c a [] h)) none in and_from _ _ (react_none c again a [] h parts.0) (then (reacted c a [] h) parts.1)) e

step_of_bundle : (c : List Rule) (again : Bool) (first : Option ℕ) (flags : Text) (skip : ℕ) (h : Held) (fault : Text → ℕ → Held → Kinds) (passes : Text → ℕ → Held → Bool)
    → ((rest : Text) (left : ℕ) (after : Held) → fault rest left after ≡ [] → passes rest left after ≡ true)
    → bundle_step_fault c again first flags skip h fault ≡ [] → bundle_step_passes c again first flags skip h passes ≡ true
step_of_bundle c again None flags skip h fault passes then e = refl
step_of_bundle c again (Some x) flags zero h fault passes then e =
    let rest = drop (length (encode_utf8 x)) flags in
    short_none c again (arg_by_short c x) rest h (fault rest 0) (passes rest 0) (then rest 0) e
step_of_bundle c again (Some x) flags (suc skip) h fault passes then e = then (drop (length (encode_utf8 x)) flags) skip h e

flags_none : (c : List Rule) (again : Bool) (k : ℕ) (flags : Text) (skip : ℕ) (h : Held) → flags_fault c again k flags skip h ≡ [] → flags_pass c again k flags skip h ≡ true
unfolding flags_fault flags_pass
flags_none c again zero flags skip h e = refl
flags_none c again (suc k) flags skip h e = step_of_bundle c again (slice_get (chars flags) 0) flags skip h (flags_fault c again k) (flags_pass c again k) (λ rest left after. flags_none c again k rest left after) e

flag_word_none : (c : List Rule) (again : Bool) (long : Option (Text × Option Text)) (word : Text) (h : Held) → flag_word_fault c again long word h ≡ [] → flag_word_passes c again long word h ≡ true
flag_word_none c again (Some p) word h e = long_none c again (arg_by_long c p.0) p.1 h e
flag_word_none c again None word h e = go (short_of word) e
  where
    go : (short : Option Text) → option_map_or (λ flags. bundle_fault c again flags h) short [] ≡ [] → option_map_or (λ flags. bundle_passes c again flags h) short true ≡ true
    go None e = refl
    go (Some flags) e = flags_none c again (length flags) flags h.skip (record h { skip = 0 }) e

help_none : (is_help disabled : Bool) (k : ErrorKind) (ks : Kinds) → cond (is_help && not disabled) (k ∷ ks) [] ≡ [] → (not is_help || disabled) ≡ true
help_none is_help disabled k ks e = again_or_new is_help disabled (fails_if_none (is_help && not disabled) k ks [] e).0

other_none : (s : Shape) (met : Option Text) (word : Text) (h : Held) → other_fault s met word h ≡ [] → other_passes s met word h ≡ true
other_none s (Some name) word h e = help_none _ s.disable_help_subcommand _ _ e
other_none s None word h e = or_holds (bytes_eq word (45 ∷ 45 ∷ [])) _ _ (flag_word_none s.rules s.args_override_self (long_of word) word h) e

word_none : (s : Shape) (names : Names) (is_trailing : Bool) (waiting : Waiting) (word : Text) (h : Held) → word_fault s names is_trailing waiting word h ≡ [] → word_passes s names is_trailing waiting word h ≡ true
word_none s names is_trailing waiting word h e = or_holds is_trailing _ _ (other_none s (subcommand_met names waiting word) word h) e

either_kind : {P : Type 0} (b : Bool) (k l : ErrorKind) (ks ls : Kinds) → cond b (k ∷ ks) (l ∷ ls) ≡ [] → P
either_kind true k l ks ls e = some_kind k ks e
either_kind false k l ks ls e = some_kind l ls e

value_none : (s : Shape) (h : Held) (found : Option Rule)
    → option_map_or (λ a. positional_fault s.rules s.args_override_self a h) found (stray_fault s) ≡ [] → option_map_or (λ a. positional_passes s.rules s.args_override_self a h) found false ≡ true
value_none s h None e = either_kind s.is_leaf _ _ _ _ e
value_none s h (Some a) e = or_holds (is_pending a h.pending && takes_several a) _ _ (settle_none s.rules s.args_override_self h) e

step_none : (s : Shape) (position : ℕ) (h : Held) (step : Step) → step_fault s position h step ≡ [] → step_passes s position h step ≡ true
step_none s position h value e = value_none s h (arg_by_index s.rules position) e
step_none s position h (next waiting) e = refl
step_none s position h (trailing p) e = refl
step_none s position h (subcommand name) e = refl

turn_none : (s : Shape) (names : Names) (w : Walk) (word : Text) → turn_fault s names w word ≡ [] → turn_passes s names w word ≡ true
turn_none s names w word e =
    let met = word_met s.rules names w.is_trailing w.waiting w.position word w.held in
    or_holds (is_some w.stopped) _ _ (λ none.
    let parts = or_none (word_fault s names w.is_trailing w.waiting word w.held) (step_fault s w.position met.0 met.1) none in
    and_from _ _ (word_none s names w.is_trailing w.waiting word w.held parts.0) (step_none s w.position met.0 met.1 parts.1)) e

walk_none : (s : Shape) (names : Names) (w : Walk) (words : List Text) → walk_fault s names w words ≡ [] → walk_passes s names w words ≡ true
unfolding walk_fault walk_passes
walk_none s names w [] e = refl
walk_none s names w (word ∷ rest) e =
    let parts = or_none (turn_fault s names w word) (walk_fault s names (walked s.rules names w word) rest) e in
    and_from _ _ (turn_none s names w word parts.0) (walk_none s names (walked s.rules names w word) rest parts.1)

-- ---- after the walk

given_first : (required given missing all : Bool) → (missing ≡ false → all ≡ true) → ((required && not given) || missing) ≡ false → ((not required || given) && all) ≡ true
given_first true true missing all then e = then e
given_first true false missing all then e = let bad : true ≡ false = e in cc
given_first false given missing all then e = then e

each_given : (rows : List Row) (rules : List Rule) → list_any (λ a. a.required && not (is_given a.id rows)) rules ≡ false → list_all (λ a. not a.required || is_given a.id rows) rules ≡ true
each_given rows [] e = refl
each_given rows (a ∷ rest) e = given_first a.required (is_given a.id rows) _ _ (each_given rows rest) e

-- the default values are such as their arguments take, and no argument has a rule on another
abbrev pub is_bare : Shape → Bool
is_bare s = list_all default_passes s.rules && list_all (λ a. a.is_free) s.rules

check_none : (s : Shape) (rows : List Row) (has : Bool) → list_all (λ a. a.is_free) s.rules ≡ true → check_fault s rows has ≡ [] → is_valid s rows has ≡ true
check_none s rows has free e =
    let help = fails_if_none (not has && (s.arg_required_else_help && not (list_any (λ r. explicit_source r.source) rows))) _ _ _ e in
    let sub = fails_if_none (not has && s.subcommand_required) _ _ _ help.1 in
    let given = fails_if_none (not (s.subcommand_negates_reqs && has) && list_any (λ a. a.required && not (is_given a.id rows)) s.rules) _ _ _ sub.1 in
    and_from _ _ (one s.arg_required_else_help has _ help.0) (and_from _ _ (two s.subcommand_required has sub.0) (and_from _ _ free (three (s.subcommand_negates_reqs && has) _ _ (each_given rows s.rules) given.0)))
  where
    one : (else_help has any : Bool) → (not has && (else_help && not any)) ≡ false → (not else_help || (has || any)) ≡ true
    one true true any e = refl
    one true false true e = refl
    one true false false e = sym e
    one false has any e = refl

    two : (required has : Bool) → (not has && required) ≡ false → (not required || has) ≡ true
    two true true e = refl
    two true false e = sym e
    two false has e = refl

    three : (negates any all : Bool) → (any ≡ false → all ≡ true) → (not negates && any) ≡ false → (negates || all) ≡ true
    three true any all f e = refl
    three false any all f e = f e

level_none : (s : Shape) (names : Names) (h : Held) (words : List Text) (has : Bool) (below : Kinds) → is_bare s ≡ true → level_fault s names h words has below ≡ []
    → (below ≡ []) × (level_passes s names h words has ≡ true)
level_none s names h words has below bare e =
    let end = (walk s.rules names h words).held in
    let parts = both _ _ bare in
    let one = or_none (walk_fault s names (walk_from h) words) _ e in
    let two = or_none below _ one.1 in
    let three = or_none (settle_fault s.rules s.args_override_self end) _ two.1 in
    let four = or_none (defaults_fault (settled s.rules end).rows s.rules) _ three.1 in (
      two.0,
      and_from _ _ (walk_none s names (walk_from h) words one.0) (and_from _ _ (settle_none s.rules s.args_override_self end three.0)
          (and_from _ _ parts.0 (check_none s (finished s.rules end) has parts.1 four.1))),
    )

first_or_rest : (here : Bool) (s : Shape) (rest : Option Shape) (words : List Text) → is_bare s ≡ true
    → (option_map_or (λ s. level_fault s [] nothing_held words false []) rest [] ≡ [] → option_map_or (λ s. level_passes s [] nothing_held words false) rest true ≡ true)
    → option_map_or (λ s. level_fault s [] nothing_held words false []) (cond here (Some s) rest) [] ≡ [] → option_map_or (λ s. level_passes s [] nothing_held words false) (cond here (Some s) rest) true ≡ true
first_or_rest true s rest words bare then e = (level_none s [] nothing_held words false [] bare e).1
first_or_rest false s rest words bare then e = then e

found_is_bare : (p : Shape → Bool) (subs : List Shape) (words : List Text) → list_all is_bare subs ≡ true
    → option_map_or (λ s. level_fault s [] nothing_held words false []) (find p subs) [] ≡ [] → option_map_or (λ s. level_passes s [] nothing_held words false) (find p subs) true ≡ true
found_is_bare p [] words bare e = refl
found_is_bare p (s ∷ subs) words bare e = first_or_rest (p s) s (find p subs) words (both _ _ bare).0 (found_is_bare p subs words (both _ _ bare).1) e

entered_none : (a : App) (stop : Option (Text × List Text)) → list_all is_bare a.subs ≡ true → entered_fault a stop ≡ [] → entered_passes a stop ≡ true
entered_none a None bare e = refl
entered_none a (Some p) bare e = found_is_bare (λ s. answers_to p.0 (label_of s)) a.subs p.1 bare e

pub taken_where_no_kind : (a : App) (words : List Text) → is_simple a ≡ true → is_bare (built a).top ≡ true → list_all is_bare (built a).subs ≡ true → fault_of a words ≡ [] → takes a words ≡ true
taken_where_no_kind a words simple top subs e =
    let b = built a in
    let ws = argument_words a words in
    let stop = (walk b.top.rules (names_of b) nothing_held ws).stopped in
    let level = level_none b.top (names_of b) nothing_held ws (is_some (entered b stop)) (entered_fault b stop) top e in
    and_from _ _ simple (and_from _ _ (entered_none b stop subs level.0) level.1)
