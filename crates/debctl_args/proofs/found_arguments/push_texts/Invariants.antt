use Rattle.std.proofs.Common.{◌≡◌, ◌++◌, map, take}
use Rattle.debctl_args.proofs.found_arguments.push_texts.Given as goal

abbrev pub invariant-loop-text : goal.invariant-loop-text
invariant-loop-text l =
    map (λ text. text.now) l.out.items ≡ map (λ text. text.now) l.initial.out.items ++ map (λ text. text.now) (take l.text-index l.texts)
