-- `stages::take_field` hands the field to its stage.
use Rattle.stages.proofs.Laws.{asked, answered}
use Rattle.stages.proofs.take_field.Goals as goal

pub offset-requires : goal.offset-requires
offset-requires c = asked c.args.p c.in-Offset.is _ _ c.requires

pub bus-requires : goal.bus-requires
bus-requires c = asked c.args.p c.in-Bus.is _ _ c.requires

pub type_column-requires : goal.type_column-requires
type_column-requires c = asked c.args.p c.in-TypeColumn.is _ _ c.requires

pub id-requires : goal.id-requires
id-requires c = asked c.args.p c.in-Id.is _ _ c.requires

pub length-requires : goal.length-requires
length-requires c = asked c.args.p c.in-Length.is _ _ c.requires

pub data-requires : goal.data-requires
data-requires c = asked c.args.p c.in-Data.is _ _ c.requires

pub bytes-requires : goal.bytes-requires
bytes-requires c = asked c.args.p c.in-Bytes.is _ _ c.requires

pub warning_id-requires : goal.warning_id-requires
warning_id-requires c = asked c.args.p c.in-WarningId.is _ _ c.requires

pub warning_length-requires : goal.warning_length-requires
warning_length-requires c = asked c.args.p c.in-WarningLength.is _ _ c.requires

pub warning_bytes-requires : goal.warning_bytes-requires
warning_bytes-requires c = asked c.args.p c.in-WarningBytes.is _ _ c.requires

pub error_id-requires : goal.error_id-requires
error_id-requires c = asked c.args.p c.in-ErrorId.is _ _ c.requires

pub error_length-requires : goal.error_length-requires
error_length-requires c = asked c.args.p c.in-ErrorLength.is _ _ c.requires

pub error_first-requires : goal.error_first-requires
error_first-requires c = asked c.args.p c.in-ErrorFirst.is _ _ c.requires

pub error_second-requires : goal.error_second-requires
error_second-requires c = asked c.args.p c.in-ErrorSecond.is _ _ c.requires

pub returns-in-Offset : goal.returns-in-Offset
returns-in-Offset c = answered c.args.p c.in-Offset.is _ _ _ c.offset.ensures

pub returns-in-Bus : goal.returns-in-Bus
returns-in-Bus c = answered c.args.p c.in-Bus.is _ _ _ c.bus.ensures

pub returns-in-TypeColumn : goal.returns-in-TypeColumn
returns-in-TypeColumn c = answered c.args.p c.in-TypeColumn.is _ _ _ c.type_column.ensures

pub returns-in-Id : goal.returns-in-Id
returns-in-Id c = answered c.args.p c.in-Id.is _ _ _ c.id.ensures

pub returns-in-Length : goal.returns-in-Length
returns-in-Length c = answered c.args.p c.in-Length.is _ _ _ c.length.ensures

pub returns-in-Data : goal.returns-in-Data
returns-in-Data c = answered c.args.p c.in-Data.is _ _ _ c.«data».ensures

pub returns-in-Bytes : goal.returns-in-Bytes
returns-in-Bytes c = answered c.args.p c.in-Bytes.is _ _ _ c.bytes.ensures

pub returns-in-WarningId : goal.returns-in-WarningId
returns-in-WarningId c = answered c.args.p c.in-WarningId.is _ _ _ c.warning_id.ensures

pub returns-in-WarningLength : goal.returns-in-WarningLength
returns-in-WarningLength c = answered c.args.p c.in-WarningLength.is _ _ _ c.warning_length.ensures

pub returns-in-WarningBytes : goal.returns-in-WarningBytes
returns-in-WarningBytes c = answered c.args.p c.in-WarningBytes.is _ _ _ c.warning_bytes.ensures

pub returns-in-ErrorId : goal.returns-in-ErrorId
returns-in-ErrorId c = answered c.args.p c.in-ErrorId.is _ _ _ c.error_id.ensures

pub returns-in-ErrorLength : goal.returns-in-ErrorLength
returns-in-ErrorLength c = answered c.args.p c.in-ErrorLength.is _ _ _ c.error_length.ensures

pub returns-in-ErrorFirst : goal.returns-in-ErrorFirst
returns-in-ErrorFirst c = answered c.args.p c.in-ErrorFirst.is _ _ _ c.error_first.ensures

pub returns-in-ErrorSecond : goal.returns-in-ErrorSecond
returns-in-ErrorSecond c = answered c.args.p c.in-ErrorSecond.is _ _ _ c.error_second.ensures
