-- The kinds of error that `clap` may give at the same words are all calls for help or the version, or all mistakes:
-- step by step of `fault_of`, for a command that has no `help` of `clap`'s own among its commands.
use Rattle.std.proofs.Common.{◌≡◌, ◌⊎◌, ℕ, ◌==◌, ◌&&◌, ◌||◌, Bool, true, false, not, cond, List, [], ◌∷◌, Option, Some, None, length, is_some, inl, inr, refl, zero, suc}
use Rattle.std.specs.Prelude.{nat_lt, find, drop, slice_get, encode_utf8}
use Rattle.std.specs.List.{list_all}
use Rattle.std.specs.Option.{option_map_or}
use Rattle.std.specs.Str.{bytes_eq, chars}
use Rattle.clap.proofs.WalkLemmas.{both}
use Rattle.clap.specs.Lexer.{long_of, short_of}
use Rattle.clap.specs.Facts.{unwrap_or_range, parser_of_value}
use Rattle.clap.specs.Kinds.{Kinds, or_else, values_kinds, value_kinds, range_kinds, check_kinds, request_kinds}
use Rattle.clap.specs.Faults.{action_fault, bundle_fault, bundle_step_fault, count_fault, default_fault, defaults_fault, entered_fault, fault_of, flag_word_fault, flags_fault, level_fault, long_fault, option_fault, other_fault, positional_fault, react_fault, repeat_fault, set_fault, settle_fault, short_fault, step_fault, stray_fault, turn_fault, use_fault, walk_fault, word_fault}
use Rattle.clap.specs.ValueTests.{accepts}
use Rattle.clap.specs.Walk.{Held, Names, Row, Rule, Step, Text, Walk, action_of, arg_by_id, arg_by_index, arg_by_long, arg_by_short, answers_to, attached_value, has_row, is_empty, is_pending, most_values, nothing_held, reacted, settled, subcommand_met, takes_several, takes_values, next, trailing, subcommand, value, values_or_missing, walk, walk_from, walked, with_default, word_met}
use Rattle.clap.specs.Simple.{App, Shape, argument_words, built, entered, label_of, names_of}
use Rattle.clap.specs.declared.builder.action.ArgAction.{ArgAction}
use Rattle.clap.specs.declared.builder.action.ArgAction.TheVariants as action
use Rattle.clap.specs.declared.builder.value_parser.ValueParser.{ValueParser}
use Rattle.clap.specs.declared.error.kind.ErrorKind.{ErrorKind}
use Rattle.debctl_args.specs.Fitting.{has_mistake, has_request, is_request_kind}

-- no mistake stands beside a call for help or the version
pub record Unmixed (kinds : Kinds) : Type 0 where
  pub is : (has_request kinds ≡ false) ⊎ (has_mistake kinds ≡ false)

-- ---- lists of kinds

no_kind : Unmixed []
no_kind = record { is = inl refl }

one_kind : (k : ErrorKind) → Unmixed (k ∷ [])
one_kind k = record { is = go (is_request_kind k) }
  where
    go : (b : Bool) → ((b || false) ≡ false) ⊎ ((not b || false) ≡ false)
    go true = inr refl
    go false = inl refl

either_one : (a b : Kinds) → Unmixed a → Unmixed b → Unmixed (or_else a b)
either_one [] b u v = v
either_one (k ∷ ks) b u v = u

by_test : (b : Bool) (x y : Kinds) → Unmixed x → Unmixed y → Unmixed (cond b x y)
by_test true x y u v = u
by_test false x y u v = v

-- ---- one use of an argument

values_unmixed : (ignore_case : Bool) (parser : ValueParser) (vs : List Text) → Unmixed (values_kinds ignore_case parser vs)
values_unmixed ignore_case parser [] = no_kind
values_unmixed ignore_case parser (v ∷ vs) = either_one (value_kinds ignore_case parser v) _ (by_test (accepts ignore_case parser v) _ _ no_kind (one_kind _)) (values_unmixed ignore_case parser vs)

count_unmixed : (a : Rule) (values : List Text) (rows : List Row) → Unmixed (count_fault a values rows)
count_unmixed a [] rows = by_test _ _ _ no_kind (one_kind _)
count_unmixed a (v ∷ vs) rows = values_unmixed a.ignore_case (parser_of_value a.parser) (v ∷ vs)

set_unmixed : (again : Bool) (a : Rule) (values : List Text) (rows : List Row) → Unmixed (set_fault again a values rows)
set_unmixed again a values rows = either_one (repeat_fault again a.id rows) _ (by_test (has_row a.id rows && not again) _ _ (one_kind _) no_kind) (values_unmixed a.ignore_case (parser_of_value a.parser) values)

request_unmixed : (x : ArgAction) → Unmixed (request_kinds x)
request_unmixed action.Help = one_kind _
request_unmixed action.HelpShort = one_kind _
request_unmixed action.HelpLong = one_kind _
request_unmixed action.Version = one_kind _
request_unmixed _ = no_kind

action_unmixed : (x : ArgAction) (again : Bool) (a : Rule) (values : List Text) (rows : List Row) → Unmixed (action_fault x again a values rows)
action_unmixed action.Set again a values rows = set_unmixed again a values rows
action_unmixed action.SetTrue again a values rows = set_unmixed again a values rows
action_unmixed action.SetFalse again a values rows = set_unmixed again a values rows
action_unmixed action.Append again a values rows = values_unmixed a.ignore_case (parser_of_value a.parser) values
action_unmixed action.Count again a values rows = count_unmixed a values rows
action_unmixed action.Help again a values rows = one_kind _
action_unmixed action.HelpShort again a values rows = one_kind _
action_unmixed action.HelpLong again a values rows = one_kind _
action_unmixed action.Version again a values rows = one_kind _

range_unmixed : (least most n : ℕ) → Unmixed (range_kinds least most n)
range_unmixed least most n = by_test (nat_lt 0 least && n == 0) _ _ (one_kind _) (by_test (least == most) _ _ (by_test (least == n) _ _ no_kind (one_kind _))
    (by_test (nat_lt n least) _ _ (one_kind _) (by_test (nat_lt most n) _ _ (one_kind _) no_kind)))

use_unmixed : (again : Bool) (a : Rule) (values : List Text) (rows : List Row) → Unmixed (use_fault again a values rows)
use_unmixed again a values rows = either_one (range_kinds (unwrap_or_range a.range).start_inclusive (most_values a) (length values)) _
    (range_unmixed (unwrap_or_range a.range).start_inclusive (most_values a) (length values)) (action_unmixed (action_of a) again a (values_or_missing a values) rows)

-- ---- the walk

found_unmixed : (again : Bool) (found : Option Rule) (values : List Text) (rows : List Row) → Unmixed (option_map_or (λ a. use_fault again a values rows) found [])
found_unmixed again None values rows = no_kind
found_unmixed again (Some a) values rows = use_unmixed again a values rows

pending_unmixed : (c : List Rule) (again : Bool) (rows : List Row) (pending : Option (Text × List Text)) → Unmixed (option_map_or (λ p. option_map_or (λ a. use_fault again a p.1 rows) (arg_by_id c p.0) []) pending [])
pending_unmixed c again rows None = no_kind
pending_unmixed c again rows (Some p) = found_unmixed again (arg_by_id c p.0) p.1 rows

settle_unmixed : (c : List Rule) (again : Bool) (h : Held) → Unmixed (settle_fault c again h)
settle_unmixed c again h = pending_unmixed c again h.rows h.pending

react_unmixed : (c : List Rule) (again : Bool) (a : Rule) (values : List Text) (h : Held) → Unmixed (react_fault c again a values h)
react_unmixed c again a values h = either_one (settle_fault c again h) _ (settle_unmixed c again h) (use_unmixed again a values (settled c h).rows)

option_unmixed : (c : List Rule) (again : Bool) (a : Rule) (v : Option Text) (h : Held) → Unmixed (option_fault c again a v h)
option_unmixed c again a (Some v) h = react_unmixed c again a (v ∷ []) h
option_unmixed c again a None h = settle_unmixed c again h

long_unmixed : (c : List Rule) (again : Bool) (found : Option Rule) (v : Option Text) (h : Held) → Unmixed (long_fault c again found v h)
long_unmixed c again None v h = one_kind _
long_unmixed c again (Some a) v h = by_test (takes_values a) _ _ (option_unmixed c again a v h) (by_test (is_some v) _ _ (one_kind _) (react_unmixed c again a [] h))

short_unmixed : (c : List Rule) (again : Bool) (found : Option Rule) (rest : Text) (h : Held) (fault : Held → Kinds) → ((after : Held) → Unmixed (fault after)) → Unmixed (short_fault c again found rest h fault)
short_unmixed c again None rest h fault then = one_kind _
short_unmixed c again (Some a) rest h fault then = by_test (takes_values a) _ _ (option_unmixed c again a (attached_value rest) h)
    (either_one (react_fault c again a [] h) _ (react_unmixed c again a [] h) (then (reacted c a [] h)))

step_of_bundle_unmixed : (c : List Rule) (again : Bool) (first : Option ℕ) (flags : Text) (skip : ℕ) (h : Held) (fault : Text → ℕ → Held → Kinds) → ((rest : Text) (left : ℕ) (after : Held) → Unmixed (fault rest left after))
    → Unmixed (bundle_step_fault c again first flags skip h fault)
step_of_bundle_unmixed c again None flags skip h fault then = no_kind
step_of_bundle_unmixed c again (Some x) flags zero h fault then =
    let rest = drop (length (encode_utf8 x)) flags in
    short_unmixed c again (arg_by_short c x) rest h (fault rest 0) (then rest 0)
step_of_bundle_unmixed c again (Some x) flags (suc skip) h fault then = then (drop (length (encode_utf8 x)) flags) skip h

flags_unmixed : (c : List Rule) (again : Bool) (k : ℕ) (flags : Text) (skip : ℕ) (h : Held) → Unmixed (flags_fault c again k flags skip h)
unfolding flags_fault
flags_unmixed c again zero flags skip h = no_kind
flags_unmixed c again (suc k) flags skip h = step_of_bundle_unmixed c again (slice_get (chars flags) 0) flags skip h (flags_fault c again k) (flags_unmixed c again k)

bundles_unmixed : (c : List Rule) (again : Bool) (short : Option Text) (h : Held) → Unmixed (option_map_or (λ flags. bundle_fault c again flags h) short [])
bundles_unmixed c again None h = no_kind
bundles_unmixed c again (Some flags) h = flags_unmixed c again (length flags) flags h.skip (record h { skip = 0 })

flag_word_unmixed : (c : List Rule) (again : Bool) (long : Option (Text × Option Text)) (word : Text) (h : Held) → Unmixed (flag_word_fault c again long word h)
flag_word_unmixed c again (Some p) word h = long_unmixed c again (arg_by_long c p.0) p.1 h
flag_word_unmixed c again None word h = bundles_unmixed c again (short_of word) h

help_is_disabled : (is_help disabled : Bool) (kinds : Kinds) → disabled ≡ true → Unmixed (cond (is_help && not disabled) kinds [])
help_is_disabled true true kinds is = no_kind
help_is_disabled true false kinds is = let bad : ⊥ = cc in absurd bad
help_is_disabled false disabled kinds is = no_kind

other_unmixed : (s : Shape) (met : Option Text) (word : Text) (h : Held) → s.disable_help_subcommand ≡ true → Unmixed (other_fault s met word h)
other_unmixed s (Some name) word h is = help_is_disabled _ s.disable_help_subcommand _ is
other_unmixed s None word h is = by_test (bytes_eq word (45 ∷ 45 ∷ [])) _ _ no_kind (flag_word_unmixed s.rules s.args_override_self (long_of word) word h)

value_unmixed : (s : Shape) (h : Held) (found : Option Rule) → Unmixed (option_map_or (λ a. positional_fault s.rules s.args_override_self a h) found (stray_fault s))
value_unmixed s h None = by_test s.is_leaf _ _ (one_kind _) (record { is = inl refl })
value_unmixed s h (Some a) = by_test (is_pending a h.pending && takes_several a) _ _ no_kind (settle_unmixed s.rules s.args_override_self h)

step_unmixed : (s : Shape) (position : ℕ) (h : Held) (step : Step) → Unmixed (step_fault s position h step)
step_unmixed s position h value = value_unmixed s h (arg_by_index s.rules position)
step_unmixed s position h (next waiting) = no_kind
step_unmixed s position h (trailing p) = no_kind
step_unmixed s position h (subcommand name) = no_kind

turn_unmixed : (s : Shape) (names : Names) (w : Walk) (word : Text) → s.disable_help_subcommand ≡ true → Unmixed (turn_fault s names w word)
turn_unmixed s names w word is =
    let met = word_met s.rules names w.is_trailing w.waiting w.position word w.held in
    by_test (is_some w.stopped) _ _ no_kind (either_one (word_fault s names w.is_trailing w.waiting word w.held) _
    (by_test w.is_trailing _ _ no_kind (other_unmixed s (subcommand_met names w.waiting word) word w.held is)) (step_unmixed s w.position met.0 met.1))

walk_unmixed : (s : Shape) (names : Names) (w : Walk) (words : List Text) → s.disable_help_subcommand ≡ true → Unmixed (walk_fault s names w words)
unfolding walk_fault
walk_unmixed s names w [] is = no_kind
walk_unmixed s names w (word ∷ rest) is = either_one (turn_fault s names w word) _ (turn_unmixed s names w word is) (walk_unmixed s names (walked s.rules names w word) rest is)

-- ---- after the walk

default_unmixed : (rows : List Row) (a : Rule) → Unmixed (default_fault rows a)
default_unmixed rows a = by_test (has_row a.id rows || is_empty a.defaults) _ _ no_kind
    (either_one (request_kinds (action_of a)) _ (request_unmixed (action_of a)) (values_unmixed a.ignore_case (parser_of_value a.parser) a.defaults))

defaults_unmixed : (rows : List Row) (rules : List Rule) → Unmixed (defaults_fault rows rules)
unfolding defaults_fault
defaults_unmixed rows [] = no_kind
defaults_unmixed rows (a ∷ rest) = either_one (default_fault rows a) _ (default_unmixed rows a) (defaults_unmixed (with_default rows a) rest)

check_unmixed : (help sub given : Bool) → Unmixed (check_kinds help sub given)
check_unmixed help sub given = by_test help _ _ (one_kind _) (by_test sub _ _ (one_kind _) (by_test given _ _ (one_kind _) no_kind))

level_unmixed : (s : Shape) (names : Names) (h : Held) (words : List Text) (has : Bool) (below : Kinds) → s.disable_help_subcommand ≡ true → Unmixed below → Unmixed (level_fault s names h words has below)
level_unmixed s names h words has below is under =
    let end = (walk s.rules names h words).held in
    either_one (walk_fault s names (walk_from h) words) _ (walk_unmixed s names (walk_from h) words is) (either_one below _ under
    (either_one (settle_fault s.rules s.args_override_self end) _ (settle_unmixed s.rules s.args_override_self end)
    (either_one (defaults_fault (settled s.rules end).rows s.rules) _ (defaults_unmixed (settled s.rules end).rows s.rules)
    (check_unmixed _ _ _))))

first_or_rest_unmixed : (here : Bool) (s : Shape) (rest : Option Shape) (words : List Text) → s.disable_help_subcommand ≡ true
    → Unmixed (option_map_or (λ s. level_fault s [] nothing_held words false []) rest []) → Unmixed (option_map_or (λ s. level_fault s [] nothing_held words false []) (cond here (Some s) rest) [])
first_or_rest_unmixed true s rest words is then = level_unmixed s [] nothing_held words false [] is no_kind
first_or_rest_unmixed false s rest words is then = then

found_is_unmixed : (p : Shape → Bool) (subs : List Shape) (words : List Text) → list_all (λ s. s.disable_help_subcommand) subs ≡ true → Unmixed (option_map_or (λ s. level_fault s [] nothing_held words false []) (find p subs) [])
found_is_unmixed p [] words is = no_kind
found_is_unmixed p (s ∷ subs) words is = first_or_rest_unmixed (p s) s (find p subs) words (both _ _ is).0 (found_is_unmixed p subs words (both _ _ is).1)

entered_unmixed : (a : App) (stop : Option (Text × List Text)) → list_all (λ s. s.disable_help_subcommand) a.subs ≡ true → Unmixed (entered_fault a stop)
entered_unmixed a None is = no_kind
entered_unmixed a (Some p) is = found_is_unmixed (λ s. answers_to p.0 (label_of s)) a.subs p.1 is

pub faults_unmixed : (a : App) (words : List Text) → (built a).top.disable_help_subcommand ≡ true → list_all (λ s. s.disable_help_subcommand) (built a).subs ≡ true → Unmixed (fault_of a words)
faults_unmixed a words top subs =
    let b = built a in
    let ws = argument_words a words in
    let stop = (walk b.top.rules (names_of b) nothing_held ws).stopped in
    level_unmixed b.top (names_of b) nothing_held ws (is_some (entered b stop)) (entered_fault b stop) top (entered_unmixed b stop subs)
