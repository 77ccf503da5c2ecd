-- `record::record_of` meets its contract.
use native.Mathlib.Omega.{arith}
use Rattle.record.proofs.Words.{data_lt, made_number}
use Rattle.record.proofs.record_of.Goals as goal

pub overflow_add-result-2 : goal.overflow_add-result-2
overflow_add-result-2 c = record { fits = data_lt c.args.m c.args.l (omega arith) }

pub returns : goal.returns
returns c =
    let a = c.args in
    record {
      l_value = made_number a.h a.m a.l c.requires.1;
      offset_bound = (omega arith, omega arith, omega arith, omega arith, omega arith, omega arith, data_lt a.m a.l (omega arith));
    }
