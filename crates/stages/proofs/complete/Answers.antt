-- `stages::complete` knows the stages that a row may end in.
use Rattle.row.specs.declared.Stage.TheVariants as stage
use Rattle.row.proofs.Ending.{left_early, ends_at}
use Rattle.stages.proofs.complete.Goals as goal

pub returns-then-left-ne0 : goal.returns-then-left-ne0
returns-then-left-ne0 c = left_early c.args.p c.args.p.stage c.requires c.if-left-ne0.true

pub returns-in-Offset : goal.returns-in-Offset
returns-in-Offset c = ends_at c.args.p (stage.Offset _) c.in-Offset.is c.requires c.if-left-ne0.false

pub returns-in-Bus : goal.returns-in-Bus
returns-in-Bus c = ends_at c.args.p stage.Bus c.in-Bus.is c.requires c.if-left-ne0.false

pub returns-in-TypeColumn : goal.returns-in-TypeColumn
returns-in-TypeColumn c = ends_at c.args.p stage.TypeColumn c.in-TypeColumn.is c.requires c.if-left-ne0.false

pub returns-in-Id : goal.returns-in-Id
returns-in-Id c = ends_at c.args.p stage.Id c.in-Id.is c.requires c.if-left-ne0.false

pub returns-in-Length : goal.returns-in-Length
returns-in-Length c = ends_at c.args.p stage.Length c.in-Length.is c.requires c.if-left-ne0.false

pub returns-in-Data : goal.returns-in-Data
returns-in-Data c = ends_at c.args.p stage.Data c.in-Data.is c.requires c.if-left-ne0.false

pub returns-in-Bytes : goal.returns-in-Bytes
returns-in-Bytes c = ends_at c.args.p stage.Bytes c.in-Bytes.is c.requires c.if-left-ne0.false

pub returns-in-WarningId : goal.returns-in-WarningId
returns-in-WarningId c = ends_at c.args.p stage.WarningId c.in-WarningId.is c.requires c.if-left-ne0.false

pub returns-in-WarningLength : goal.returns-in-WarningLength
returns-in-WarningLength c = ends_at c.args.p stage.WarningLength c.in-WarningLength.is c.requires c.if-left-ne0.false

pub returns-in-WarningBytes : goal.returns-in-WarningBytes
returns-in-WarningBytes c = ends_at c.args.p stage.WarningBytes c.in-WarningBytes.is c.requires c.if-left-ne0.false

pub returns-in-ErrorId : goal.returns-in-ErrorId
returns-in-ErrorId c = ends_at c.args.p stage.ErrorId c.in-ErrorId.is c.requires c.if-left-ne0.false

pub returns-in-ErrorLength : goal.returns-in-ErrorLength
returns-in-ErrorLength c = ends_at c.args.p stage.ErrorLength c.in-ErrorLength.is c.requires c.if-left-ne0.false

pub returns-in-ErrorFirst : goal.returns-in-ErrorFirst
returns-in-ErrorFirst c = ends_at c.args.p stage.ErrorFirst c.in-ErrorFirst.is c.requires c.if-left-ne0.false

pub returns-in-ErrorSecond : goal.returns-in-ErrorSecond
returns-in-ErrorSecond c = ends_at c.args.p stage.ErrorSecond c.in-ErrorSecond.is c.requires c.if-left-ne0.false
