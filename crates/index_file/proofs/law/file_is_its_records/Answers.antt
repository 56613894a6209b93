use Rattle.index_file.proofs.Whole.{whole-file}
use Rattle.index_file.proofs.law.file_is_its_records.Goals as goal

pub returns : goal.returns
returns c = record { law = whole-file }
