-- `trace::row_at` takes the row that was read in the window, if it is within the limit and CR and LF stand behind it.
use native.Mathlib.Omega.{arith}
use Rattle.trace.proofs.Rows.{lined, feed_near, row_here, no_row_here, never_here}
use Rattle.trace.proofs.row_at.Goals as goal

pub row_in-requires : goal.row_in-requires
row_in-requires c = lined c.requires.0 c.requires.1

pub returns-in_err-feed : goal.returns-in_err-feed
returns-in_err-feed c = rw c.from_residual.ensures (never_here c.requires.0 c.requires.1 c.in_err-feed.ensures)

pub overflow_add-feed : goal.overflow_add-feed
overflow_add-feed c = omega (arith, feed_near c.requires.0 c.requires.1 c.in_ok-feed.ensures)

pub overflow_add-feed-2 : goal.overflow_add-feed-2
overflow_add-feed-2 c = omega (arith, feed_near c.requires.0 c.requires.1 c.in_ok-feed.ensures)

pub returns-then-at-feed : goal.returns-then-at-feed
returns-then-at-feed c = no_row_here c.requires.0 c.requires.1 c.in_ok-feed.ensures (λ h m f. omega (arith, c.if-at-feed.true))

pub returns-then-text-feed : goal.returns-then-text-feed
returns-then-text-feed c = no_row_here c.requires.0 c.requires.1 c.in_ok-feed.ensures (λ h m f. omega (arith, c.if-text-feed.true))

pub returns-then-text-feed-ne10 : goal.returns-then-text-feed-ne10
returns-then-text-feed-ne10 c = no_row_here c.requires.0 c.requires.1 c.in_ok-feed.ensures (λ h m f. absurd (c.if-text-feed-ne10.true f))

pub returns : goal.returns
returns c =
    row_here c.requires.0 c.requires.1 c.in_ok-feed.ensures (omega (arith, c.if-at-feed.false)) (omega (arith, c.if-text-feed.false)) c.if-text-feed-ne10.false
