use mathlib.Core.Path.{◌≡◌, ap, ◌∙◌}
use Rattle.description.specs.Lent.{description_of}
use Rattle.rules.specs.Job.{Description}
use Rattle.writer.specs.Writing.{writing, writing_number}
use Rattle.words.proofs.OneNumber.{words_trips}
use Rattle.words.specs.Words.{words_description, written_words}
use Rattle.words.proofs.write_words.Goals as goal

pub returns : goal.returns
unfolding written_words words_description
returns c =
    let words = c.args.words.now in
    let job = c.args.job.now in
    -- the header and the arrays that are read are together the words' description
    let described :
    description_of c.read_header-header.result c.read_places.new.numbers c.read_places-2.new.numbers c.read_places-3.new.numbers
    c.read_places-4.new.numbers c.read_places-5.new.numbers c.read_places-6.new.numbers c.read_places-7.new.numbers
    c.read_places-8.new.numbers ≡ words_description words =
    λ i. description_of (c.read_header-header.ensures i) (c.read_places.ensures i) (c.read_places-2.ensures i)
    (c.read_places-3.ensures i) (c.read_places-4.ensures i) (c.read_places-5.ensures i)
    (c.read_places-6.ensures i) (c.read_places-7.ensures i) (c.read_places-8.ensures i) in
    let number = c.written_number.ensures ∙ c.write_job-written.ensures.result_value ∙ ap (λ (d : Description). writing_number d job) described in
    let left = c.write_job-written.ensures.out_after ∙ ap (λ (d : Description). (writing d job).buffer) described in record {
      value = number;
      job_after = left;
      words_trips = words_trips words job number left;
    }
