use Rattle.std.proofs.Common.{◌-◌, length, ap, ◌∙◌}
use Rattle.matchers.proofs.Filling.{full-word}
use Rattle.windows.specs.Windows.{full_word}
use Rattle.windows.proofs.reading.Reading.full.Goals as goal

pub returns : goal.returns
returns c = full-word (64 - length c.bytes.result.now) ∙ ap (λ k. full_word (64 - k)) (ap length c.bytes.ensures.value)
