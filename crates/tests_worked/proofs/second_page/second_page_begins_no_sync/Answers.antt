use Rattle.tests_worked.proofs.SecondPage.{not_second, second_by, sync_in}
use Rattle.tests_worked.proofs.second_page.second_page_begins_no_sync.Goals as goal

pub returns : goal.returns
returns c = record { whole = sync_in; alike = second_by; refused = not_second }
