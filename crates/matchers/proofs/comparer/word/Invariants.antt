use Rattle.std.proofs.Common.{◌≡◌, ◌&&◌, ltb}
use Rattle.rules.specs.Held.{term_of}
use Rattle.rules.specs.Words.{word_of}
use Rattle.rules.specs.Terms.{occurs}
use Rattle.matchers.proofs.comparer.word.Given as goal

abbrev pub invariant-loop-s : goal.invariant-loop-s
invariant-loop-s l = l.word ≡ word_of (λ s. ltb s l.s && occurs (term_of l.term) l.stretch s) 64
