-- `explain::first` takes the row number in a window of its own, the one that is expected there.
use Rattle.explain.proofs.Windows.{starts, line_here, moves, expected_moves}
use Rattle.explain.proofs.first.Goals as goal

pub expected_number-k-requires : goal.expected_number-k-requires
expected_number-k-requires c = (starts _ c.requires.0 c.window.ensures).lined

pub take_number-requires : goal.take_number-requires
take_number-requires c = (starts _ c.requires.0 c.window.ensures, c.requires.2)

pub returns : goal.returns
returns c =
    let f = c.requires.0 in
    let w = c.window.ensures in
    expected_moves f (c.expected_number-k.ensures _ (line_here _ f w)) _ _ (moves _ f w _ _ c.take_number.ensures)
