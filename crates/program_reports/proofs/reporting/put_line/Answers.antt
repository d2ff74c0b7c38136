use Rattle.base_outputs.proofs.OutputLaws.{puts_nothing}
use Rattle.program_reports.specs.Reporting.{line_of}
use Rattle.program_reports.proofs.reporting.put_line.Goals as goal

pub returns-in-NotText : goal.returns-in-NotText
unfolding line_of
returns-in-NotText g c = rw c.in-NotText.is c.put.ensures

pub returns-in-NoNumber : goal.returns-in-NoNumber
unfolding line_of
returns-in-NoNumber g c = rw c.in-NoNumber.is c.put_no_number.ensures

pub returns-in-NoName : goal.returns-in-NoName
unfolding line_of
returns-in-NoName g c = rw c.in-NoName.is c.put_no_name.ensures

pub returns-in-File : goal.returns-in-File
unfolding line_of
returns-in-File g c = rw c.in-File.is c.put_file_fault.ensures

pub returns-in-Output : goal.returns-in-Output
unfolding line_of
returns-in-Output g c = rw c.in-Output.is c.put_output_fault.ensures

pub returns-in-Run : goal.returns-in-Run
unfolding line_of
returns-in-Run g c = rw c.in-Run.is c.put_fault.ensures

pub returns-in-Words : goal.returns-in-Words
unfolding line_of
returns-in-Words g c = rw c.in-Words.is (puts_nothing c.args.output.now)

pub returns-in-PipeClosed : goal.returns-in-PipeClosed
unfolding line_of
returns-in-PipeClosed g c = rw c.in-PipeClosed.is (puts_nothing c.args.output.now)

pub returns-in-RowFile : goal.returns-in-RowFile
unfolding line_of
returns-in-RowFile g c = rw c.in-RowFile.is c.put_row_file.ensures

pub returns-in-RowRecording : goal.returns-in-RowRecording
unfolding line_of
returns-in-RowRecording g c = rw c.in-RowRecording.is c.put_row_recording.ensures

pub returns-in-HasFindings : goal.returns-in-HasFindings
unfolding line_of
returns-in-HasFindings g c = rw c.in-HasFindings.is c.put_has_findings.ensures

pub returns-in-FolderThere : goal.returns-in-FolderThere
unfolding line_of
returns-in-FolderThere g c = rw c.in-FolderThere.is c.put_folder_there.ensures
