use Rattle.std.proofs.Common.{◌≡◌, ◌+◌, ◌++◌, length, drop, map}
use Rattle.block_layout.specs.Objects.{numbered}
use Rattle.block_layout.specs.Views.{item_of}
use Rattle.block_layout.proofs.globals.objects.Given as goal

abbrev pub invariant-loop-global : goal.invariant-loop-global
invariant-loop-global l =
    map item_of l.objects.items ++ numbered (length l.objects.items) (map (λ g. g.size) (drop l.global-index l.program.globals) ++ map (λ t. length t + 1) l.program.texts)
    ≡ numbered 0 (map (λ g. g.size) l.program.globals ++ map (λ t. length t + 1) l.program.texts)

abbrev pub invariant-loop-text : goal.invariant-loop-text
invariant-loop-text l =
    map item_of l.objects.items ++ numbered (length l.objects.items) (map (λ t. length t + 1) (drop l.text-index l.program.texts))
    ≡ numbered 0 (map (λ g. g.size) l.program.globals ++ map (λ t. length t + 1) l.program.texts)
