-- The statement of `specs/Tight`, put together.
use Rattle.tightness.specs.Tight.{Tight}
use Rattle.tightness.proofs.Real.{real}
use Rattle.tightness.proofs.Same
use Rattle.tightness.proofs.Readers
use Rattle.tightness.proofs.Writers
use Rattle.tightness.proofs.Exporters
use Rattle.tightness.proofs.Marks
use Rattle.tightness.proofs.Refusals

pub tight : Tight
tight = record {
  one_reader = λ k j. Same.one_reader k j;
  one_writer = λ k j. Same.one_writer k j;
  one_exporter = λ k j. Same.one_exporter k j;
  accepts = λ k text out h s r. Readers.accepts k text out h s r;
  refuses_all = λ k. Readers.refuses_all k;
  reads_back = λ j k. Writers.reads_back k j;
  refuses_written = λ j k. Writers.refuses_written k j;
  same_version = λ k. Readers.same_version k;
  same_start = λ k. Readers.same_start k;
  same_first = λ k. Readers.same_first k;
  same_records = λ k. Readers.same_records k;
  same_always = λ k h. Readers.same_start k h.1;
  does_nothing = λ k. Writers.does_nothing k;
  copies_first = λ k. Readers.copies_first k;
  writes_first = λ k. Writers.writes_first k;
  invents_rows = λ k. Readers.invents_rows k;
  invents_left_out = λ k. Exporters.invents_left_out k;
  reader_touches = λ k text out. Refusals.read_quiet (k.keeps text out);
  writer_touches = λ k version start first records out. Refusals.write_quiet (k.keeps version start first records out);
  exporter_touches = λ k start channel records out. Refusals.export_quiet (k.keeps start channel records out);
  says_one = λ k. Readers.says_one k;
  numbers_from_one = λ k. Writers.numbers_from_one k;
  gives_one = λ k. Exporters.gives_one k;
  gives_all = λ k. Exporters.gives_all k;
  marks_first = λ k. Readers.marks_first k;
  marks_equal = λ k. Readers.marks_equal k;
  marks_by_first = λ k. Readers.marks_by_first k;
  writes_falsely = λ k. Marks.writes_falsely k;
  exports_falsely = λ k. Marks.exports_falsely k;
  real = λ w. real w;
}
